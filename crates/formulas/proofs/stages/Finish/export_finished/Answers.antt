-- `Finish::export_finished`: one product for the two floored halves, by `one_product`; the posted amount and the product are in range, so each step fits.
use mathlib.Core.Path.{sym, ◌∙◌}
use Rattle.amounts.proofs.Steps.{kept, gave, ◌minus◌}
use Rattle.formulas.proofs.Given.{pending}
use Rattle.formulas.proofs.StageLaws.{one_product}
use Rattle.formulas.proofs.stages.Finish.export_finished.Goals as goal

pub returns : goal.returns
returns c =
    let s = c.args.self in
    (kept (pending s.posted_cents s.posted_cents_value minus kept (gave c.balancing.ensures) tt) tt).is ∙ sym (one_product s.posted_cents s.schedule s.actual s.price)
