-- `bids::bid`: the bid's rows, and the two figures that they leave.
use mathlib.Core.Path.{◌∙◌}
use mathlib.Core.List.{◌∷◌}
use borrow.Author.Tests.{le-leb}
use Rattle.std.proofs.Common.{rules}
use Rattle.amounts.proofs.Steps.{back}
use Rattle.refusals.proofs.Laws.{handed_on, refused_too, accepted_too}
use Rattle.kinds.specs.Kinds.{kind_row}
use Rattle.kinds.proofs.Fits.{differential-small}
use Rattle.bids.specs.Rows.{bid_rows}
use Rattle.bids.specs.Entries.{bid_verdict}
use Rattle.bids.proofs.Curves.{fit, bid-passed}
use Rattle.bids.proofs.bids.bid.Goals as goal

pub returns-in_err-check_bid : goal.returns-in_err-check_bid
unfolding bid_verdict
returns-in_err-check_bid c =
    let s = c.args in
    handed_on _ c.in_err-check_bid.field-0.0 (search rules) ∙ refused_too (kind_row s.kind ∷ bid_rows s.kind s.mwh.now s.prices.now s.differential) _ (tt {0}) _ c.in_err-check_bid.ensures

pub invariant_of-points : goal.invariant_of-points
invariant_of-points c = let s = c.args in record { fit = fit (bid-passed s.kind s.mwh.now s.prices.now s.differential c.in_ok-check_bid.ensures).0 }

pub bid_requirement-requires : goal.bid_requirement-requires
bid_requirement-requires c =
    let s = c.args in
    le-leb s.differential 1000000 (differential-small s.kind s.differential (bid-passed s.kind s.mwh.now s.prices.now s.differential c.in_ok-check_bid.ensures).1)

pub returns : goal.returns
unfolding bid_verdict
returns c =
    let s = c.args in
    rw (c.bid_mwh.ensures, back c.bid_requirement.result c.bid_requirement.type_inv, c.bid_requirement.ensures)
    (accepted_too (kind_row s.kind ∷ bid_rows s.kind s.mwh.now s.prices.now s.differential) (tt {0}) _ _ c.in_ok-check_bid.ensures)
