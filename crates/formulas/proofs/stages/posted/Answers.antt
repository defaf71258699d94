-- `formulas::stages::posted`: the posted amount's rows, and the requirement that they leave.
use mathlib.Core.Path.{◌∙◌}
use mathlib.Core.List.{◌∷◌}
use mir.Syntax.{w64}
use mir.Facts.{to_z-of_z}
use Rattle.std.proofs.Common.{rules}
use Rattle.amounts.proofs.Steps.{back}
use Rattle.refusals.specs.Refusals.{None}
use Rattle.refusals.proofs.Laws.{handed_on, refused_too, accepted_too, none_applied}
use Rattle.kinds.specs.Kinds.{kind_row}
use Rattle.deliveries.specs.Rows.{posted_rows}
use Rattle.deliveries.proofs.Numbered.{posted-rows-numbered}
use Rattle.formulas.proofs.Given.{handed-price, posting}
use Rattle.formulas.specs.Entries.{posted_verdict}
use Rattle.formulas.proofs.stages.posted.Goals as goal

pub returns-in_err-check_posted : goal.returns-in_err-check_posted
unfolding posted_verdict
returns-in_err-check_posted c =
    let a = c.args in
    handed_on _ c.in_err-check_posted.field-0.0 (search rules)
    ∙ refused_too (kind_row a.kind ∷ posted_rows a.kind a.differential a.schedule a.price a.second) _ (tt {0}) _ (rw (to_z-of_z {w = w64} c.ranges.price, to_z-of_z {w = w64} c.ranges.second) at c.in_err-check_posted.ensures)

pub invariant_of-post : goal.invariant_of-post
unfolding None
invariant_of-post c =
    let a = c.args in
    let none = none_applied (kind_row a.kind ∷ posted_rows a.kind a.differential a.schedule a.price a.second) (tt {0}) _ (posted-rows-numbered a.kind a.differential a.schedule a.price a.second) (rw (to_z-of_z {w = w64} c.ranges.price, to_z-of_z {w = w64} c.ranges.second) at c.in_ok-check_posted.ensures) in
    let g = posting a.kind a.differential a.schedule a.price a.second none.1 in
    record {
      differential_value = g.differential;
      schedule_value = g.schedule;
      price_value = handed-price c.ranges.price g.prices.first;
      second_value = handed-price c.ranges.second g.prices.second;
    }

pub returns : goal.returns
unfolding posted_verdict
returns c =
    let a = c.args in
    rw (
      back c.requirement.result c.requirement.type_inv,
      c.requirement.ensures,
      to_z-of_z {w = w64} c.ranges.price,
      to_z-of_z {w = w64} c.ranges.second,
    )
    (accepted_too (kind_row a.kind ∷ posted_rows a.kind a.differential a.schedule a.price a.second) (tt {0}) _ _ (rw (to_z-of_z {w = w64} c.ranges.price, to_z-of_z {w = w64} c.ranges.second) at c.in_ok-check_posted.ensures))
