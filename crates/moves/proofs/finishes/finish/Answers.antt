-- `finish`: the key's rows, the delivery's, the stage's; then the record at stage 3.
use mathlib.Core.Path.{◌∙◌}
use Rattle.std.proofs.Common.{rules}
use Rattle.amounts.proofs.Steps.{back}
use Rattle.refusals.proofs.Laws.{handed_on, refused_too, accepted_too}
use lib.Dec.{eqb}
use Rattle.kinds.specs.Kinds.{rules_of}
use Rattle.messages.specs.Plan.{stage_rows, plan}
use Rattle.deliveries.proofs.Numbered.{delivery-rows-numbered}
use Rattle.messages.proofs.Tables.{key-rows-numbered, above_refused, above_passed}
use Rattle.moves.proofs.finishes.finish.Goals as goal

pub returns-in_err-check : goal.returns-in_err-check
unfolding plan
returns-in_err-check c = handed_on _ c.in_err-check.field-0.0 (search rules) ∙ above_refused _ _ _ (key-rows-numbered c.args.finishing.key) _ c.in_err-check.ensures

pub returns-in_err-check_delivery : goal.returns-in_err-check_delivery
unfolding plan
returns-in_err-check_delivery c =
    let f = c.args.finishing in
    handed_on _ c.in_err-check_delivery.field-0.0 (search rules)
    ∙ above_refused _ _ _ (delivery-rows-numbered f.key.kind f.actual f.price f.second) _ (rw (back f.price c.struct_told-1.given.1.1.0.1, back f.second c.struct_told-2-1.given.1.1.1.0.1) at c.in_err-check_delivery.ensures)
    ∙ above_passed _ _ _ (key-rows-numbered f.key) c.in_ok-check.ensures

pub returns-in_err-check_stage : goal.returns-in_err-check_stage
unfolding plan
returns-in_err-check_stage c =
    let f = c.args.finishing in
    let old = c.args.old in
    handed_on _ c.in_err-check_stage.field-0.0 (search rules)
    ∙ refused_too (stage_rows old (eqb old.stage (rules_of f.key.kind).finished)) _ (tt {0}) _ (rw (c.rules-rules.ensures) at c.in_err-check_stage.ensures)
    ∙ above_passed _ _ _ (delivery-rows-numbered f.key.kind f.actual f.price f.second) (rw (back f.price c.struct_told-1.given.1.1.0.1, back f.second c.struct_told-2-1.given.1.1.1.0.1) at c.in_ok-check_delivery.ensures)
    ∙ above_passed _ _ _ (key-rows-numbered f.key) c.in_ok-check.ensures

pub returns : goal.returns
unfolding plan
returns c =
    let f = c.args.finishing in
    let old = c.args.old in
    rw (c.later_record-next.ensures, back c.finished_cents.result c.finished_cents.type_inv, c.finished_cents.ensures)
    (accepted_too (stage_rows old (eqb old.stage (rules_of f.key.kind).finished)) (tt {0}) _ _ (rw (c.rules-rules.ensures) at c.in_ok-check_stage.ensures)
    ∙ above_passed _ _ _ (delivery-rows-numbered f.key.kind f.actual f.price f.second) (rw (back f.price c.struct_told-1.given.1.1.0.1, back f.second c.struct_told-2-1.given.1.1.1.0.1) at c.in_ok-check_delivery.ensures)
    ∙ above_passed _ _ _ (key-rows-numbered f.key) c.in_ok-check.ensures)
