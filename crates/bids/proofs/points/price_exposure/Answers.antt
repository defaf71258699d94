-- `points::price_exposure`: refused by the first row that applies, or else the exposure.
use mathlib.Core.Path.{◌≡◌, sym, subst}
use native.Mathlib.Omega.{arith}
use Rattle.std.proofs.Common.{rules, Err}
use Rattle.amounts.proofs.Steps.{quantity}
use Rattle.refusals.proofs.Laws.{none_applied, first_refused}
use Rattle.bids.specs.Rows.{point_rows}
use Rattle.bids.specs.Entries.{Exposed}
use Rattle.bids.proofs.Curves.{fit, exposed-small, point-rows-numbered}
use Rattle.bids.proofs.points.price_exposure.Goals as goal

pub returns-in_err-check_points : goal.returns-in_err-check_points
unfolding Exposed
returns-in_err-check_points c =
    let e : c.from_residual.result ≡ Err c.in_err-check_points.field-0.0 = search rules in
    subst (λ r. Exposed c.args.mwh.now c.args.prices.now r) (sym e) (first_refused (point_rows c.args.mwh.now c.args.prices.now) _ (tt {0}) c.in_err-check_points.ensures)

pub invariant_of-points : goal.invariant_of-points
invariant_of-points c =
    record { fit = fit (none_applied (point_rows c.args.mwh.now c.args.prices.now) (tt {0}) _ (point-rows-numbered c.args.mwh.now c.args.prices.now) c.in_ok-check_points.ensures) }

pub overflow_cast-result : goal.overflow_cast-result
overflow_cast-result c =
    let h = none_applied (point_rows c.args.mwh.now c.args.prices.now) (tt {0}) _ (point-rows-numbered c.args.mwh.now c.args.prices.now) c.in_ok-check_points.ensures in
    record { sfits = omega (arith, exposed-small (fit h) c.exposure.ensures) }

pub returns : goal.returns
unfolding Exposed
returns c =
    let h = none_applied (point_rows c.args.mwh.now c.args.prices.now) (tt {0}) _ (point-rows-numbered c.args.mwh.now c.args.prices.now) c.in_ok-check_points.ensures in
    (h, (c.exposure.result, (quantity (exposed-small (fit h) c.exposure.ensures) tt).is, c.exposure.ensures))
