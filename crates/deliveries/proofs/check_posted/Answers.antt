-- `check_posted`: the delivery's rows, then its own.
use mathlib.Core.Path.{◌∙◌, sym}
use Rattle.std.proofs.Common.{rules, to_z-of_z, w64}
use Rattle.refusals.proofs.Laws.{handed_on, stopped, row_passed}
use Rattle.deliveries.specs.Rows.{delivery_rows, posted_rows}
use Rattle.deliveries.proofs.Numbered.{delivery-rows-numbered}
use Rattle.deliveries.proofs.check_posted.Goals as goal

pub returns-in_err-check_delivery : goal.returns-in_err-check_delivery
unfolding posted_rows
returns-in_err-check_delivery c =
    let a = c.args in
    handed_on _ c.in_err-check_delivery.field-0.0 (search rules)
    ∙ stopped (delivery_rows a.kind a.schedule a.price a.second) _ _ (tt {0}) (tt {0}) (delivery-rows-numbered a.kind a.schedule a.price a.second)
    (rw (to_z-of_z {w = w64} c.ranges.price, to_z-of_z {w = w64} c.ranges.second) at c.in_err-check_delivery.ensures)
    ∙ sym (row_passed 2 _ _ (tt {0}) (search rules))
