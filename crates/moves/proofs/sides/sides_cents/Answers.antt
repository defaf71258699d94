-- `sides_cents` is the library's amount, at the record's differentials.
use mathlib.Core.Path.{ap, ◌∙◌}
use Rattle.amounts.proofs.Steps.{back}
use Rattle.refusals.specs.Figures.{cents_of}
use Rattle.messages.specs.Plan.{sides_posted_for}
use Rattle.moves.proofs.sides.sides_cents.Goals as goal

pub returns : goal.returns
unfolding sides_posted_for
returns c = back c.cents_or_zero.result c.cents_or_zero.type_inv ∙ c.cents_or_zero.ensures ∙ ap cents_of c.posted.ensures
