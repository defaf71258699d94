-- `formulas::stages::finished`: the finished amount's rows, and the requirement that they leave.
use mathlib.Core.Path.{◌∙◌}
use mathlib.Core.List.{◌∷◌}
use mir.Syntax.{w64}
use mir.Facts.{to_z-of_z}
use Rattle.std.proofs.Common.{rules}
use Rattle.amounts.proofs.Steps.{back}
use Rattle.refusals.specs.Refusals.{None}
use Rattle.refusals.proofs.Laws.{handed_on, refused_too, accepted_too, none_applied}
use Rattle.kinds.specs.Kinds.{kind_row}
use Rattle.deliveries.specs.Rows.{finished_rows}
use Rattle.deliveries.proofs.Numbered.{finished-rows-numbered}
use Rattle.kinds.proofs.Fits.{pending-bid}
use Rattle.formulas.proofs.Given.{handed-price, handed-pending, finish}
use Rattle.formulas.specs.Entries.{finished_verdict}
use Rattle.formulas.proofs.stages.finished.Goals as goal

pub returns-in_err-check_finished : goal.returns-in_err-check_finished
unfolding finished_verdict
returns-in_err-check_finished c =
    let a = c.args in
    handed_on _ c.in_err-check_finished.field-0.0 (search rules)
    ∙ refused_too (kind_row a.kind ∷ finished_rows a.kind a.schedule a.day_ahead a.posted_cents a.actual a.price a.second) _ (tt {0}) _ (rw (to_z-of_z {w = w64} c.ranges.day_ahead, to_z-of_z {w = w64} c.ranges.posted_cents, to_z-of_z {w = w64} c.ranges.price, to_z-of_z {w = w64} c.ranges.second) at c.in_err-check_finished.ensures)

pub invariant_of-finish : goal.invariant_of-finish
unfolding None
invariant_of-finish c =
    let a = c.args in
    let none = none_applied (kind_row a.kind ∷ finished_rows a.kind a.schedule a.day_ahead a.posted_cents a.actual a.price a.second) (tt {0}) _ (finished-rows-numbered a.kind a.schedule a.day_ahead a.posted_cents a.actual a.price a.second) (rw (to_z-of_z {w = w64} c.ranges.day_ahead, to_z-of_z {w = w64} c.ranges.posted_cents, to_z-of_z {w = w64} c.ranges.price, to_z-of_z {w = w64} c.ranges.second) at c.in_ok-check_finished.ensures) in
    let g = finish a.kind a.schedule a.day_ahead a.posted_cents a.actual a.price a.second none.1 in
    record {
      schedule_value = g.schedule;
      day_ahead_value = handed-price c.ranges.day_ahead g.kept;
      posted_cents_value = handed-pending c.ranges.posted_cents (pending-bid a.kind a.posted_cents g.pending);
      actual_value = g.actual;
      price_value = handed-price c.ranges.price g.prices.first;
      second_value = handed-price c.ranges.second g.prices.second;
    }

pub returns : goal.returns
unfolding finished_verdict
returns c =
    let a = c.args in
    rw (
      back c.requirement.result c.requirement.type_inv,
      c.requirement.ensures,
      to_z-of_z {w = w64} c.ranges.day_ahead,
      to_z-of_z {w = w64} c.ranges.posted_cents,
      to_z-of_z {w = w64} c.ranges.price,
      to_z-of_z {w = w64} c.ranges.second,
    )
    (accepted_too (kind_row a.kind ∷ finished_rows a.kind a.schedule a.day_ahead a.posted_cents a.actual a.price a.second) (tt {0}) _ _ (rw (to_z-of_z {w = w64} c.ranges.day_ahead, to_z-of_z {w = w64} c.ranges.posted_cents, to_z-of_z {w = w64} c.ranges.price, to_z-of_z {w = w64} c.ranges.second) at c.in_ok-check_finished.ensures))
