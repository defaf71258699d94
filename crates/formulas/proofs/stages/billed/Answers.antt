-- `formulas::stages::billed`: the bill's row, and the bill itself.
use mathlib.Core.Path.{◌∙◌, ap}
use mir.Syntax.{w64}
use mir.Facts.{to_z-of_z}
use Rattle.std.proofs.Common.{rules}
use Rattle.refusals.specs.Refusals.{accept}
use Rattle.refusals.proofs.Laws.{handed_on, refused_too, accepted_too}
use Rattle.deliveries.specs.Rows.{bill_rows}
use Rattle.formulas.specs.Entries.{billed_verdict}
use Rattle.formulas.proofs.stages.billed.Goals as goal

pub returns-in_err-check_bill : goal.returns-in_err-check_bill
unfolding billed_verdict
returns-in_err-check_bill c =
    handed_on _ c.in_err-check_bill.field-0.0 (search rules) ∙ refused_too (bill_rows c.args.amount) _ (tt {0}) _ (rw (to_z-of_z {w = w64} c.ranges.amount) at c.in_err-check_bill.ensures)

pub returns : goal.returns
unfolding billed_verdict
returns c =
    ap accept (to_z-of_z {w = w64} c.ranges.amount) ∙ accepted_too (bill_rows c.args.amount) (tt {0}) _ _ (rw (to_z-of_z {w = w64} c.ranges.amount) at c.in_ok-check_bill.ensures)
