-- `revise`: what makes the record, above what is asked of the record under its key.
use mathlib.Core.Path.{◌∙◌}
use Rattle.std.proofs.Common.{rules}
use Rattle.refusals.proofs.Laws.{handed_on}
use Rattle.bids.proofs.Curves.{bid-rows-numbered}
use Rattle.messages.specs.declared.types.Deed.TheVariants.{Keyed}
use Rattle.messages.specs.declared.types.Change.TheVariants.{Rebid}
use Rattle.messages.specs.Plan.{plan}
use Rattle.messages.proofs.Tables.{keyed_refused, keyed_passed}
use Rattle.openings.proofs.groups.revise.Goals as goal

pub returns-in_err-made : goal.returns-in_err-made
unfolding plan
returns-in_err-made c =
    let a = c.args in
    handed_on _ c.in_err-made.field-0.0 (search rules) ∙ keyed_refused a.opening.key _ _ (bid-rows-numbered a.opening.key.kind a.mwh.now a.prices.now a.opening.differential) _ _ _ c.in_err-made.ensures

pub returns : goal.returns
unfolding plan
returns c =
    let a = c.args in
    c.revised.ensures ∙ keyed_passed a.opening.key _ _ (bid-rows-numbered a.opening.key.kind a.mwh.now a.prices.now a.opening.differential) _ _ (λ r. Keyed (Rebid a.old.requirement r)) c.in_ok-made.ensures
