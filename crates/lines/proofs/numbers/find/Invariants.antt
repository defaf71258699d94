-- `numbers::find`: the number looked for is always the one with `left` before it in what follows `last`.
use mathlib.Core.Path.{◌≡◌}
use lib.ListN.{drop, get_or}
use Rattle.lines.specs.Numbers.{numbers_after, lacking, number_of}
use Rattle.lines.proofs.numbers.find.Given as goal

abbrev pub invariant-loop-at : goal.invariant-loop-at
invariant-loop-at l = number_of l.text l.n ≡ get_or (numbers_after l.last (drop l.at l.text)) l.left lacking
