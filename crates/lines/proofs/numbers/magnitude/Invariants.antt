-- `numbers::magnitude`: what was read, with what follows it, is always the same number.
use mathlib.Core.Path.{◌≡◌}
use lib.ListN.{drop}
use Rattle.lines.specs.Numbers.{read}
use Rattle.lines.proofs.numbers.magnitude.Given as goal

abbrev pub invariant-loop-byte : goal.invariant-loop-byte
invariant-loop-byte l = read 0 l.text ≡ read l.magnitude (drop l.byte-index l.text)
