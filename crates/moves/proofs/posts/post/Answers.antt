-- `post`: the key's rows, the delivery's, the stage's and row 13; then the record at stage 2.
use mathlib.Core.Path.{◌∙◌}
use Rattle.std.proofs.Common.{rules}
use Rattle.amounts.proofs.Steps.{back}
use lib.Dec.{eqb}
use Rattle.refusals.specs.declared.Refusal.TheVariants.{AboveBid}
use Rattle.refusals.proofs.Laws.{handed_on, row_refused, row_accepted}
use Rattle.kinds.specs.Kinds.{rules_of}
use Rattle.messages.specs.Plan.{plan}
use Rattle.deliveries.proofs.Numbered.{delivery-rows-numbered}
use Rattle.messages.proofs.Tables.{key-rows-numbered, stage-rows-numbered, above_refused, above_passed}
use Rattle.moves.proofs.posts.post.Goals as goal

pub returns-in_err-check : goal.returns-in_err-check
unfolding plan
returns-in_err-check c = handed_on _ c.in_err-check.field-0.0 (search rules) ∙ above_refused _ _ _ (key-rows-numbered c.args.posting.key) _ c.in_err-check.ensures

pub returns-in_err-check_delivery : goal.returns-in_err-check_delivery
unfolding plan
returns-in_err-check_delivery c =
    let p = c.args.posting in
    handed_on _ c.in_err-check_delivery.field-0.0 (search rules)
    ∙ above_refused _ _ _ (delivery-rows-numbered p.key.kind p.schedule p.price p.second) _ (rw (back p.price c.struct_told-1.given.1.1.0.1, back p.second c.struct_told-2-1.given.1.1.1.0.1) at c.in_err-check_delivery.ensures)
    ∙ above_passed _ _ _ (key-rows-numbered p.key) c.in_ok-check.ensures

pub returns-in_err-check_stage : goal.returns-in_err-check_stage
unfolding plan
returns-in_err-check_stage c =
    let p = c.args.posting in
    let old = c.args.old in
    handed_on _ c.in_err-check_stage.field-0.0 (search rules)
    ∙ above_refused _ _ _ (stage-rows-numbered old (eqb old.stage (rules_of p.key.kind).posted)) _ (rw (c.rules-rules.ensures) at c.in_err-check_stage.ensures)
    ∙ above_passed _ _ _ (delivery-rows-numbered p.key.kind p.schedule p.price p.second) (rw (back p.price c.struct_told-1.given.1.1.0.1, back p.second c.struct_told-2-1.given.1.1.1.0.1) at c.in_ok-check_delivery.ensures)
    ∙ above_passed _ _ _ (key-rows-numbered p.key) c.in_ok-check.ensures

pub returns-in_err-refuse_if : goal.returns-in_err-refuse_if
unfolding plan
returns-in_err-refuse_if c =
    let p = c.args.posting in
    let old = c.args.old in
    handed_on _ c.in_err-refuse_if.field-0.0 (search rules)
    ∙ row_refused AboveBid _ _ _ c.in_err-refuse_if.ensures
    ∙ above_passed _ _ _ (stage-rows-numbered old (eqb old.stage (rules_of p.key.kind).posted)) (rw (c.rules-rules.ensures) at c.in_ok-check_stage.ensures)
    ∙ above_passed _ _ _ (delivery-rows-numbered p.key.kind p.schedule p.price p.second) (rw (back p.price c.struct_told-1.given.1.1.0.1, back p.second c.struct_told-2-1.given.1.1.1.0.1) at c.in_ok-check_delivery.ensures)
    ∙ above_passed _ _ _ (key-rows-numbered p.key) c.in_ok-check.ensures

pub returns : goal.returns
unfolding plan
returns c =
    let p = c.args.posting in
    let old = c.args.old in
    rw (c.posted_record-next.ensures, back c.posted_cents.result c.posted_cents.type_inv, c.posted_cents.ensures)
    (row_accepted 13 _ _ c.in_ok-refuse_if.ensures
    ∙ above_passed _ _ _ (stage-rows-numbered old (eqb old.stage (rules_of p.key.kind).posted)) (rw (c.rules-rules.ensures) at c.in_ok-check_stage.ensures)
    ∙ above_passed _ _ _ (delivery-rows-numbered p.key.kind p.schedule p.price p.second) (rw (back p.price c.struct_told-1.given.1.1.0.1, back p.second c.struct_told-2-1.given.1.1.1.0.1) at c.in_ok-check_delivery.ensures)
    ∙ above_passed _ _ _ (key-rows-numbered p.key) c.in_ok-check.ensures)
