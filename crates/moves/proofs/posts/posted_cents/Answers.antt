-- `posted_cents` is the library's amount, at the record's fields.
use mathlib.Core.Path.{ap, ◌∙◌}
use Rattle.amounts.proofs.Steps.{back}
use Rattle.refusals.specs.Figures.{cents_of}
use Rattle.formulas.specs.Entries.{posted_verdict}
use Rattle.messages.specs.Plan.{posted_for}
use Rattle.moves.proofs.posts.posted_cents.Goals as goal

pub returns : goal.returns
unfolding posted_for
returns c =
    let old = c.args.old in
    let p = c.args.posting in
    let price = back p.price c.struct_told-1.given.1.1.0.1 in
    let second = back p.second c.struct_told-2-1.given.1.1.1.0.1 in
    back c.cents_or_zero.result c.cents_or_zero.type_inv ∙ c.cents_or_zero.ensures
    ∙ ap cents_of c.posted.ensures
    ∙ (λ i. cents_of (posted_verdict old.key.kind old.differential old.exempt p.schedule (price i) (second i)))
