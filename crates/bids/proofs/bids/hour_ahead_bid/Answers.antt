-- `bids::hour_ahead_bid`: the price exposure, of at most 640,000,000,000.
use mathlib.Core.Path.{ap, ◌∙◌}
use native.Mathlib.Omega.{arith}
use lib.IntN.{pos}
use Rattle.amounts.proofs.Steps.{quantity}
use Rattle.bids.specs.Bids.{hour_ahead_bid}
use Rattle.bids.proofs.Curves.{exposed-small}
use Rattle.bids.proofs.Largest.{exposure-only}
use Rattle.bids.proofs.bids.hour_ahead_bid.Goals as goal

pub overflow_cast-result : goal.overflow_cast-result
overflow_cast-result c = record { sfits = omega (arith, exposed-small c.args.points.fit c.exposure.ensures) }

pub returns : goal.returns
unfolding hour_ahead_bid
returns c = (quantity (exposed-small c.args.points.fit c.exposure.ensures) tt).is ∙ ap pos (exposure-only c.exposure.ensures)
