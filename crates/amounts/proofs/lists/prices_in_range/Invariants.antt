-- `prices_in_range`: those passed fit and those to come are in range where all are.
use mathlib.Core.Path.{◌≡◌}
use mathlib.Core.Bool.{◌&&◌}
use lib.ListN.{drop}
use Rattle.amounts.specs.Lists.{every}
use Rattle.amounts.specs.Limits.{is_price}
use Rattle.amounts.proofs.lists.prices_in_range.Given as goal

abbrev pub invariant-loop-cents : goal.invariant-loop-cents
invariant-loop-cents l = (l.fit && every is_price (drop l.cents-index l.fn.prices)) ≡ every is_price l.fn.prices
