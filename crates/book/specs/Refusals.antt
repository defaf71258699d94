-- Document 01, 'Turned away, and why', and 02, orders 3 and 6: the whole table, message by message. 'Checked in this order; the first that applies is given, and only those that concern the message.'
-- Each test stands with what it is about: a kind's in `kinds`, a key's in `keys`, points' in `bids` and `intervals`, a close's in `closings` and `batches`, the totals' in `credit`.
-- proofs/Verdicts.antt shows (table-parts) that this is row 1, then what a message's plan is refused by (2 to 13, `plan_rows`, which sees the message and its record), then what the
-- totals refuse (14 to 16, `credit_rows`), or the places (a close's 11, `batch_rows`).
-- Assumes nothing.
use Rattle.std.specs.Prelude.{not, ◌&&◌, List, [], ◌∷◌, ℕ, ◌*◌, leb, eqb, ℤ, pos, ◌+ℤ◌, ◌-ℤ◌, length}
use Rattle.std.specs.Int.Signed.{lt_z}
use Rattle.amounts.specs.Limits.{between, is_point_mwh, is_quantity, is_price, is_differential, is_bill, is_support}
use Rattle.amounts.specs.Lists.{every}
use Rattle.refusals.specs.Refusals.{Row, row}
use Rattle.kinds.specs.Kinds.{quarter_hour, virtual, bid_stage, billed_stage, is_kind, rules_of, has_one_curve, is_path, differential_fits, prices_fit}
use Rattle.keys.specs.Keys.{is_hour}
use Rattle.intervals.specs.Intervals.{points, counts_fit}
use Rattle.closings.specs.Closings.{each_once}
use Rattle.virtuals.specs.Virtuals.{is_side_mwh}
use Rattle.batches.specs.Batches.{unmatched}
use Rattle.records.specs.Records.{is_free}
use Rattle.messages.specs.declared.types.Message.{Message}
use Rattle.messages.specs.declared.types.Message.TheVariants.{Open, Revise, Withdraw, Post, Finish, Bill, Pay, Support, OpenCurves, ReviseCurves, Close, OpenSides, ReviseSides, PostSides}
use Rattle.messages.specs.Plan.{bid_for, zone_key, sides_for}
use Rattle.credit.specs.Credit.{suspended}
use Rattle.book.specs.Books.{Book, lookup, sound, totals}

-- 1 'book not sound'
-- 2 'kind not 1 to 4' (02, order 3: 'kinds run to 5'), 3 'path out of range', 4 'hour out of range'
-- 5 'point count out of range or lists unequal' (02, order 3: 'an interval too long, all four empty, or a path listed twice', and one curve where the kind has four, or four where it has one), 6 'a quantity out of range', 7 'a price out of range or not 0 where it must be', 8 'differential out of range', 9 'amount out of range'
-- 10 'open: key already open', 11 'other keyed messages: key not open' (02, order 3: 'when the hour has no pending bid or the paths aren't those pending'), 12 'wrong stage', 13 'schedule above bid MWh'
-- 14 'open or revise while suspended', 15 'open with 256 records',
-- 16 'open: held + requirement above support; revise: the new requirement is above the old and held afterwards is above support' (02, order 3: '16 never for opening kind 5')
unfoldable pub table : Book → Message → List ℕ → List ℤ → List Row
table b (Open o) mwhs prices =
    row 1 (not (sound b))
    ∷ row 2 (not (is_kind o.key.kind))
    ∷ row 3 (not (is_path (rules_of o.key.kind) o.key.path))
    ∷ row 4 (not (is_hour o.key.hour))
    ∷ row 5 (not (has_one_curve (rules_of o.key.kind)))
    ∷ row 5 (not (between 1 64 (length mwhs) && eqb (length mwhs) (length prices)))
    ∷ row 6 (not (every is_point_mwh mwhs))
    ∷ row 7 (not (every is_price prices))
    ∷ row 8 (not (differential_fits (rules_of o.key.kind) o.differential))
    ∷ row 10 (not (is_free (lookup b o.key)))
    ∷ row 14 (suspended (totals b))
    ∷ row 15 (totals b).full
    ∷ row 16 (lt_z (totals b).support ((totals b).held +ℤ (bid_for o mwhs prices).cents))
    ∷ []
table b (Revise o) mwhs prices =
    row 1 (not (sound b))
    ∷ row 2 (not (is_kind o.key.kind))
    ∷ row 3 (not (is_path (rules_of o.key.kind) o.key.path))
    ∷ row 4 (not (is_hour o.key.hour))
    ∷ row 5 (not (has_one_curve (rules_of o.key.kind)))
    ∷ row 5 (not (between 1 64 (length mwhs) && eqb (length mwhs) (length prices)))
    ∷ row 6 (not (every is_point_mwh mwhs))
    ∷ row 7 (not (every is_price prices))
    ∷ row 8 (not (differential_fits (rules_of o.key.kind) o.differential))
    ∷ row 11 (is_free (lookup b o.key))
    ∷ row 12 (not (eqb (lookup b o.key).stage bid_stage))
    ∷ row 14 (suspended (totals b))
    ∷ row 16
    (lt_z (lookup b o.key).requirement (bid_for o mwhs prices).cents
    && lt_z (totals b).support ((totals b).held -ℤ (lookup b o.key).requirement +ℤ (bid_for o mwhs prices).cents))
    ∷ []
table b (Withdraw k) mwhs prices =
    row 1 (not (sound b))
    ∷ row 2 (not (is_kind k.kind))
    ∷ row 3 (not (is_path (rules_of k.kind) k.path))
    ∷ row 4 (not (is_hour k.hour))
    ∷ row 11 (is_free (lookup b k))
    ∷ row 12 (not (eqb (lookup b k).stage bid_stage))
    ∷ []
table b (Post p) mwhs prices =
    row 1 (not (sound b))
    ∷ row 2 (not (is_kind p.key.kind))
    ∷ row 3 (not (is_path (rules_of p.key.kind) p.key.path))
    ∷ row 4 (not (is_hour p.key.hour))
    ∷ row 6 (not (is_quantity p.schedule))
    ∷ row 7 (not (prices_fit (rules_of p.key.kind) p.price p.second))
    ∷ row 11 (is_free (lookup b p.key))
    ∷ row 12 (not (eqb (lookup b p.key).stage (rules_of p.key.kind).posted))
    ∷ row 13 (not (leb p.schedule (lookup b p.key).mwh))
    ∷ []
table b (Finish f) mwhs prices =
    row 1 (not (sound b))
    ∷ row 2 (not (is_kind f.key.kind))
    ∷ row 3 (not (is_path (rules_of f.key.kind) f.key.path))
    ∷ row 4 (not (is_hour f.key.hour))
    ∷ row 6 (not (is_quantity f.actual))
    ∷ row 7 (not (prices_fit (rules_of f.key.kind) f.price f.second))
    ∷ row 11 (is_free (lookup b f.key))
    ∷ row 12 (not (eqb (lookup b f.key).stage (rules_of f.key.kind).finished))
    ∷ []
table b (Bill x) mwhs prices =
    row 1 (not (sound b))
    ∷ row 2 (not (is_kind x.key.kind))
    ∷ row 3 (not (is_path (rules_of x.key.kind) x.key.path))
    ∷ row 4 (not (is_hour x.key.hour))
    ∷ row 9 (not (is_bill x.cents))
    ∷ row 11 (is_free (lookup b x.key))
    ∷ row 12 (not (eqb (lookup b x.key).stage (rules_of x.key.kind).billed))
    ∷ []
table b (Pay k) mwhs prices =
    row 1 (not (sound b))
    ∷ row 2 (not (is_kind k.kind))
    ∷ row 3 (not (is_path (rules_of k.kind) k.path))
    ∷ row 4 (not (is_hour k.hour))
    ∷ row 11 (is_free (lookup b k))
    ∷ row 12 (not (eqb (lookup b k).stage billed_stage))
    ∷ []
table b (Support s) mwhs prices = row 1 (not (sound b)) ∷ row 9 (not (is_support s.cents)) ∷ []
table b (OpenCurves c) mwhs prices =
    row 1 (not (sound b))
    ∷ row 2 (not (is_kind c.key.kind))
    ∷ row 3 (not (is_path (rules_of c.key.kind) c.key.path))
    ∷ row 4 (not (is_hour c.key.hour))
    ∷ row 5
    (not ((rules_of c.key.kind).intervals && counts_fit c.counts && eqb (length mwhs) (points c.counts) && eqb (length prices) (points c.counts)))
    ∷ row 6 (not (every is_point_mwh mwhs))
    ∷ row 7 (not (every is_price prices))
    ∷ row 10 (not (is_free (lookup b c.key)))
    ∷ row 14 (suspended (totals b))
    ∷ row 15 (totals b).full
    ∷ []
-- 16 never applies here: the new requirement is 0, and that of a pending bid is not below it
table b (ReviseCurves c) mwhs prices =
    row 1 (not (sound b))
    ∷ row 2 (not (is_kind c.key.kind))
    ∷ row 3 (not (is_path (rules_of c.key.kind) c.key.path))
    ∷ row 4 (not (is_hour c.key.hour))
    ∷ row 5
    (not ((rules_of c.key.kind).intervals && counts_fit c.counts && eqb (length mwhs) (points c.counts) && eqb (length prices) (points c.counts)))
    ∷ row 6 (not (every is_point_mwh mwhs))
    ∷ row 7 (not (every is_price prices))
    ∷ row 11 (is_free (lookup b c.key))
    ∷ row 12 (not (eqb (lookup b c.key).stage bid_stage))
    ∷ row 14 (suspended (totals b))
    ∷ row 16
    (lt_z (lookup b c.key).requirement (pos 0)
    && lt_z (totals b).support ((totals b).held -ℤ (lookup b c.key).requirement +ℤ pos 0))
    ∷ []
table b (Close c) paths prices =
    row 1 (not (sound b))
    ∷ row 3 (not (every (is_path (rules_of quarter_hour)) paths))
    ∷ row 4 (not (is_hour c.hour))
    ∷ row 5 (not (each_once paths && eqb (length prices) (length paths * 4)))
    ∷ row 7 (not (every is_price prices))
    ∷ row 11 (unmatched c.hour paths b.records)
    ∷ []
-- 02, order 6: the kind is the case's, so 2 never applies; 3 is 'above zone 11', 6 'a side above 10,000', 13 'for either side'
table b (OpenSides s) mwhs prices =
    row 1 (not (sound b))
    ∷ row 2 (not (is_kind virtual))
    ∷ row 3 (not (is_path (rules_of virtual) s.zone))
    ∷ row 4 (not (is_hour s.hour))
    ∷ row 6 (not (is_side_mwh s.load.mwh && is_side_mwh s.supply.mwh))
    ∷ row 8 (not (is_differential s.load.differential && is_differential s.supply.differential))
    ∷ row 10 (not (is_free (lookup b (zone_key s.zone s.hour))))
    ∷ row 14 (suspended (totals b))
    ∷ row 15 (totals b).full
    ∷ row 16 (lt_z (totals b).support ((totals b).held +ℤ sides_for s))
    ∷ []
table b (ReviseSides s) mwhs prices =
    row 1 (not (sound b))
    ∷ row 2 (not (is_kind virtual))
    ∷ row 3 (not (is_path (rules_of virtual) s.zone))
    ∷ row 4 (not (is_hour s.hour))
    ∷ row 6 (not (is_side_mwh s.load.mwh && is_side_mwh s.supply.mwh))
    ∷ row 8 (not (is_differential s.load.differential && is_differential s.supply.differential))
    ∷ row 11 (is_free (lookup b (zone_key s.zone s.hour)))
    ∷ row 12 (not (eqb (lookup b (zone_key s.zone s.hour)).stage bid_stage))
    ∷ row 14 (suspended (totals b))
    ∷ row 16
    (lt_z (lookup b (zone_key s.zone s.hour)).requirement (sides_for s)
    && lt_z (totals b).support ((totals b).held -ℤ (lookup b (zone_key s.zone s.hour)).requirement +ℤ sides_for s))
    ∷ []
table b (PostSides p) mwhs prices =
    row 1 (not (sound b))
    ∷ row 2 (not (is_kind virtual))
    ∷ row 3 (not (is_path (rules_of virtual) p.zone))
    ∷ row 4 (not (is_hour p.hour))
    ∷ row 6 (not (is_side_mwh p.load && is_side_mwh p.supply))
    ∷ row 11 (is_free (lookup b (zone_key p.zone p.hour)))
    ∷ row 12 (not (eqb (lookup b (zone_key p.zone p.hour)).stage bid_stage))
    ∷ row 13 (not (leb p.load (lookup b (zone_key p.zone p.hour)).mwh && leb p.supply (lookup b (zone_key p.zone p.hour)).supply.mwh))
    ∷ []
