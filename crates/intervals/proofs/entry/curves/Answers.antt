-- `entry::curves`: the curves' rows, and the four sums that they leave.
use mathlib.Core.Path.{◌∙◌, ap}
use mathlib.Core.List.{◌∷◌}
use Rattle.std.proofs.Common.{rules, arith}
use Rattle.refusals.specs.Refusals.{accept}
use Rattle.refusals.proofs.Laws.{handed_on, refused_too, accepted_too}
use Rattle.kinds.specs.Kinds.{kind_row}
use Rattle.intervals.specs.Intervals.{curves_rows, curves_verdict}
use Rattle.intervals.proofs.Laws.{curves-passed}
use Rattle.intervals.proofs.entry.curves.Goals as goal

pub returns-in_err-check_curves : goal.returns-in_err-check_curves
unfolding curves_verdict
returns-in_err-check_curves c =
    let s = c.args in
    handed_on _ c.in_err-check_curves.field-0.0 (search rules) ∙ refused_too (kind_row s.kind ∷ curves_rows s.kind s.counts s.mwh.now s.prices.now) _ (tt {0}) _ c.in_err-check_curves.ensures

pub sums-requires-clause-mwh_value : goal.sums-requires-clause-mwh_value
sums-requires-clause-mwh_value c = let s = c.args in (curves-passed s.kind s.counts s.mwh.now s.prices.now c.in_ok-check_curves.ensures).mwhs

pub sums-requires-clause-counts_value : goal.sums-requires-clause-counts_value
sums-requires-clause-counts_value c = let s = c.args in (curves-passed s.kind s.counts s.mwh.now s.prices.now c.in_ok-check_curves.ensures).counts

pub sums-requires-clause-counts_in_bounds : goal.sums-requires-clause-counts_in_bounds
sums-requires-clause-counts_in_bounds c =
    let s = c.args in
    let f = curves-passed s.kind s.counts s.mwh.now s.prices.now c.in_ok-check_curves.ensures in
    omega arith

pub returns : goal.returns
unfolding curves_verdict
returns c =
    let s = c.args in
    ap accept c.sums.ensures ∙ accepted_too (kind_row s.kind ∷ curves_rows s.kind s.counts s.mwh.now s.prices.now) (tt {0}) _ _ c.in_ok-check_curves.ensures
