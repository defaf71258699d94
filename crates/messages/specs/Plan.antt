-- Document 01 and 02, orders 3 and 6: refusals 2 to 13 and what each message asks for. They see the message and the record under its key, and nothing else of the book.
-- `old` is that record, blank where the key is not open.
-- Assumes nothing.
use Rattle.std.specs.Prelude.{Bool, true, false, ◌&&◌, not, cond, List, [], ◌∷◌, ◌++◌, ℕ, leb, eqb, ℤ}
use Rattle.amounts.specs.Limits.{is_support}
use Rattle.refusals.specs.Refusals.{Row, row, Verdict, judge}
use Rattle.kinds.specs.Kinds.{virtual, rules_of, bid_stage, posted_stage, finished_stage, billed_stage}
use Rattle.bids.specs.Rows.{bid_rows}
use Rattle.deliveries.specs.Rows.{delivery_rows, bill_rows}
use Rattle.refusals.specs.declared.Bid.{Bid}
use Rattle.refusals.specs.Figures.{cents_of}
use Rattle.refusals.specs.Answers.{bid_of}
use Rattle.bids.specs.Entries.{bid_verdict}
use Rattle.formulas.specs.Entries.{posted_verdict, finished_verdict}
use Rattle.intervals.specs.declared.types.Intervals.{Intervals}
use Rattle.intervals.specs.Intervals.{curves_rows, curves_verdict, intervals_in}
use Rattle.closings.specs.Closings.{close_rows}
use Rattle.virtuals.specs.declared.Side.{Side}
use Rattle.virtuals.specs.Virtuals.{side_rows, mwh_rows, bid_verdict as sides_verdict, posted_verdict as sides_posted_verdict}
pub use Rattle.messages.specs.declared.types.Message.{Message}
pub use Rattle.messages.specs.declared.types.Opening.{Opening}
pub use Rattle.messages.specs.declared.types.Posting.{Posting}
pub use Rattle.messages.specs.declared.types.Finishing.{Finishing}
pub use Rattle.messages.specs.declared.types.Curves.{Curves}
pub use Rattle.messages.specs.declared.types.Closing.{Closing}
pub use Rattle.messages.specs.declared.types.Sides.{Sides}
pub use Rattle.messages.specs.declared.types.SidesPosting.{SidesPosting}
pub use Rattle.messages.specs.declared.types.Change.{Change}
pub use Rattle.messages.specs.declared.types.Deed.{Deed}
pub use Rattle.messages.specs.declared.types.Message.TheVariants.{Open, Revise, Withdraw, Post, Finish, Bill, Pay, Support, OpenCurves, ReviseCurves, Close, OpenSides, ReviseSides, PostSides}
pub use Rattle.messages.specs.declared.types.Change.TheVariants.{Add, AddPending, Rebid, Advance, Remove}
pub use Rattle.messages.specs.declared.types.Deed.TheVariants.{Keyed, SetSupport, CloseHour}
use Rattle.keys.specs.declared.Key.{Key}
use Rattle.keys.specs.Keys.{key_rows}
use Rattle.records.specs.declared.types.Record.{Record}
use Rattle.records.specs.Records.{blank, bid_record, pending_record, sides_record, advanced, sides_posted, is_free}

-- ---- the record of each stage

-- 'Open makes stage 1'; 'The exempt mark is ignored for kinds 2 to 4'
abbrev pub opened_record : Opening → Bid → Record
opened_record o bid = bid_record o.key bid.mwh o.differential (o.exempt && (rules_of o.key.kind).exempts) bid.cents

-- 'Post keeps the schedule and, for kind 1, the first price'
abbrev pub posted_record : Record → Posting → ℤ → Record
posted_record old p cents = advanced old posted_stage p.schedule (cond (rules_of old.key.kind).dayahead p.price old.price) cents

-- finish and bill: 'actual and real-time values aren't kept'
abbrev pub later_record : Record → ℕ → ℤ → Record
later_record old stage cents = advanced old stage old.schedule old.price cents

-- ---- the amounts, by the formula library's answers

unfoldable pub bid_for : Opening → List ℕ → List ℤ → Bid
bid_for o mwhs prices = bid_of (bid_verdict o.key.kind mwhs prices o.differential o.exempt)

unfoldable pub posted_for : Record → Posting → ℤ
posted_for r p = cents_of (posted_verdict r.key.kind r.differential r.exempt p.schedule p.price p.second)

unfoldable pub finished_for : Record → Finishing → ℤ
finished_for r f =
    cents_of (finished_verdict r.key.kind r.exempt r.schedule r.price r.requirement f.actual f.price f.second)

-- 02, order 3: 'the record keeps its four MWh sums'
unfoldable pub intervals_for : Curves → List ℕ → List ℤ → Intervals
intervals_for c mwhs prices = intervals_in (curves_verdict c.key.kind c.counts mwhs prices)

-- 02, order 6: 'with path 1 to 11 for zones A to K and both sides in one key'
abbrev pub zone_key : ℕ → ℕ → Key
zone_key zone hour = record { kind = virtual; path = zone; hour = hour }

unfoldable pub sides_for : Sides → ℤ
sides_for s = cents_of (sides_verdict s.load s.supply)

-- what was posted of each side, at the differential that it was bid with
abbrev pub posted_side : ℕ → ℕ → Side
posted_side mwh differential = record { mwh = mwh; differential = differential }

unfoldable pub sides_posted_for : Record → SidesPosting → ℤ
sides_posted_for r p = cents_of (sides_posted_verdict (posted_side p.load r.differential) (posted_side p.supply r.supply.differential))

-- ---- what a message asks for

-- the transaction that a message names; a support change names none, and a close an hour
abbrev pub key_of : Message → Key
key_of (Open o) = o.key
key_of (Revise o) = o.key
key_of (Withdraw k) = k
key_of (Post p) = p.key
key_of (Finish f) = f.key
key_of (Bill b) = b.key
key_of (Pay k) = k
key_of (Support s) = blank.key
key_of (OpenCurves c) = c.key
key_of (ReviseCurves c) = c.key
key_of (Close c) = blank.key
key_of (OpenSides s) = zone_key s.zone s.hour
key_of (ReviseSides s) = zone_key s.zone s.hour
key_of (PostSides p) = zone_key p.zone p.hour

-- whether it begins a transaction
abbrev pub opens : Message → Bool
opens (Open o) = true
opens (Revise o) = false
opens (Withdraw k) = false
opens (Post p) = false
opens (Finish f) = false
opens (Bill b) = false
opens (Pay k) = false
opens (Support s) = false
opens (OpenCurves c) = true
opens (ReviseCurves c) = false
opens (Close c) = false
opens (OpenSides s) = true
opens (ReviseSides s) = false
opens (PostSides p) = false

abbrev pub deed_for : Record → Message → List ℕ → List ℤ → Deed
deed_for old (Open o) mwhs prices = Keyed (Add (opened_record o (bid_for o mwhs prices)))
deed_for old (Revise o) mwhs prices = Keyed (Rebid old.requirement (opened_record o (bid_for o mwhs prices)))
deed_for old (Withdraw k) mwhs prices = Keyed (Remove k)
deed_for old (Post p) mwhs prices = Keyed (Advance (posted_record old p (posted_for old p)))
deed_for old (Finish f) mwhs prices = Keyed (Advance (later_record old finished_stage (finished_for old f)))
deed_for old (Bill b) mwhs prices = Keyed (Advance (later_record old billed_stage b.cents))
deed_for old (Pay k) mwhs prices = Keyed (Remove k)
deed_for old (Support s) mwhs prices = SetSupport s.cents
deed_for old (OpenCurves c) mwhs prices = Keyed (AddPending (pending_record c.key (intervals_for c mwhs prices)))
deed_for old (ReviseCurves c) mwhs prices = Keyed (Rebid old.requirement (pending_record c.key (intervals_for c mwhs prices)))
deed_for old (Close c) paths prices = CloseHour c.hour
deed_for old (OpenSides s) mwhs prices = Keyed (Add (sides_record (zone_key s.zone s.hour) s.load s.supply (sides_for s)))
deed_for old (ReviseSides s) mwhs prices = Keyed (Rebid old.requirement (sides_record (zone_key s.zone s.hour) s.load s.supply (sides_for s)))
deed_for old (PostSides p) mwhs prices = Keyed (Advance (sides_posted old p.load p.supply (sides_posted_for old p)))

-- ---- refusals 2 to 13: 'only those that concern the message', in the paper's order

-- 11 'other keyed messages: key not open', 12 'wrong stage'
unfoldable pub stage_rows : Record → Bool → List Row
stage_rows old right = row 11 (is_free old) ∷ row 12 (not right) ∷ []

-- the stage that each is sent from is its kind's: 'Post goes from 1 to 2 and is not for kind 3', 'Finish goes from 2 to 3, for kind 3 from 1 to 3'
abbrev pub plan_rows : Record → Message → List ℕ → List ℤ → List Row
plan_rows old (Open o) mwhs prices = key_rows o.key ++ (bid_rows o.key.kind mwhs prices o.differential ++ (row 10 (not (is_free old)) ∷ []))
plan_rows old (Revise o) mwhs prices = key_rows o.key ++ (bid_rows o.key.kind mwhs prices o.differential ++ stage_rows old (eqb old.stage bid_stage))
plan_rows old (Withdraw k) mwhs prices = key_rows k ++ stage_rows old (eqb old.stage bid_stage)
plan_rows old (Post p) mwhs prices =
    key_rows p.key ++ (delivery_rows p.key.kind p.schedule p.price p.second
    ++ (stage_rows old (eqb old.stage (rules_of p.key.kind).posted) ++ (row 13 (not (leb p.schedule old.mwh)) ∷ [])))
plan_rows old (Finish f) mwhs prices =
    key_rows f.key ++ (delivery_rows f.key.kind f.actual f.price f.second ++ stage_rows old (eqb old.stage (rules_of f.key.kind).finished))
plan_rows old (Bill b) mwhs prices = key_rows b.key ++ (bill_rows b.cents ++ stage_rows old (eqb old.stage (rules_of b.key.kind).billed))
plan_rows old (Pay k) mwhs prices = key_rows k ++ stage_rows old (eqb old.stage billed_stage)
plan_rows old (Support s) mwhs prices = row 9 (not (is_support s.cents)) ∷ []
plan_rows old (OpenCurves c) mwhs prices =
    key_rows c.key ++ (curves_rows c.key.kind c.counts mwhs prices ++ (row 10 (not (is_free old)) ∷ []))
plan_rows old (ReviseCurves c) mwhs prices =
    key_rows c.key ++ (curves_rows c.key.kind c.counts mwhs prices ++ stage_rows old (eqb old.stage bid_stage))
plan_rows old (Close c) paths prices = close_rows c.hour paths prices
plan_rows old (OpenSides s) mwhs prices = key_rows (zone_key s.zone s.hour) ++ (side_rows s.load s.supply ++ (row 10 (not (is_free old)) ∷ []))
plan_rows old (ReviseSides s) mwhs prices = key_rows (zone_key s.zone s.hour) ++ (side_rows s.load s.supply ++ stage_rows old (eqb old.stage bid_stage))
plan_rows old (PostSides p) mwhs prices =
    key_rows (zone_key p.zone p.hour) ++ (mwh_rows p.load p.supply
    ++ (stage_rows old (eqb old.stage bid_stage) ++ (row 13 (not (leb p.load old.mwh && leb p.supply old.supply.mwh)) ∷ [])))

unfoldable pub plan : Record → Message → List ℕ → List ℤ → Verdict Deed
plan old m mwhs prices = judge (plan_rows old m mwhs prices) (deed_for old m mwhs prices)
