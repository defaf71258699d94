-- `bids::check_bid`: the rows of the kind and of one curve, those of the points, and that of the differential.
use mathlib.Core.Path.{refl, ◌∙◌, sym}
use Rattle.std.proofs.Common.{rules}
use Rattle.refusals.specs.declared.Refusal.TheVariants.{Differential}
use Rattle.refusals.proofs.Laws.{handed_on, stopped, passed, row_passed, row_answered}
use Rattle.bids.specs.Rows.{point_rows, bid_rows}
use Rattle.bids.proofs.Curves.{point-rows-numbered}
use Rattle.bids.proofs.bids.check_bid.Goals as goal

pub returns-in_err-check_points : goal.returns-in_err-check_points
unfolding bid_rows
returns-in_err-check_points c =
    let a = c.args in
    handed_on _ c.in_err-check_points.field-0.0 (search rules)
    ∙ stopped (point_rows a.mwh.now a.prices.now) _ _ (tt {0}) (tt {0}) (point-rows-numbered a.mwh.now a.prices.now) c.in_err-check_points.ensures
    ∙ sym (row_passed 5 _ _ (tt {0}) (search rules))
    ∙ sym (row_passed 2 _ _ (tt {0}) (search rules))

pub returns : goal.returns
unfolding bid_rows
returns c =
    let a = c.args in
    row_answered c.refuse_if-3.result Differential _ c.refuse_if-3.ensures
    ∙ rw (c.differential_fits.ensures, c.rules-rules.ensures) refl
    ∙ sym (passed (point_rows a.mwh.now a.prices.now) _ (tt {0}) _ (tt {0}) (point-rows-numbered a.mwh.now a.prices.now) c.in_ok-check_points.ensures)
    ∙ sym (row_passed 5 _ _ (tt {0}) (search rules))
    ∙ sym (row_passed 2 _ _ (tt {0}) (search rules))
