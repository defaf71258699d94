-- `finished_cents` is the library's amount, at the record's fields.
use mathlib.Core.Path.{ap, ◌∙◌}
use Rattle.amounts.proofs.Steps.{back}
use Rattle.refusals.specs.Figures.{cents_of}
use Rattle.formulas.specs.Entries.{finished_verdict}
use Rattle.messages.specs.Plan.{finished_for}
use Rattle.moves.proofs.finishes.finished_cents.Goals as goal

pub returns : goal.returns
unfolding finished_for
returns c =
    let old = c.args.old in
    let f = c.args.finishing in
    let day_ahead = back old.price c.struct_told-1.given.1.1.1.1.1.1.0.1 in
    let posted = back old.requirement c.struct_told-2-1.given.1.1.1.1.1.1.1.0.1 in
    let price = back f.price c.struct_told-3-1.given.1.1.0.1 in
    let second = back f.second c.struct_told-4-1.given.1.1.1.0.1 in
    back c.cents_or_zero.result c.cents_or_zero.type_inv ∙ c.cents_or_zero.ensures
    ∙ ap cents_of c.finished.ensures
    ∙ (λ i. cents_of (finished_verdict old.key.kind old.exempt old.schedule (day_ahead i) (posted i) f.actual (price i) (second i)))
