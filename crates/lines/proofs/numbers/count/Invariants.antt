-- `numbers::count`: those found and those to come are always as many as the line has; none is found before its byte.
use mathlib.Core.Path.{◌≡◌}
use Prim.Native.Nat.{◌+◌, ◌≤◌}
use lib.ListN.{length, drop}
use Rattle.lines.specs.Numbers.{numbers, numbers_after}
use Rattle.lines.proofs.numbers.count.Given as goal

abbrev pub invariant-loop-byte : goal.invariant-loop-byte
invariant-loop-byte l = (l.count ≤ l.byte-index) × (l.count + length (numbers_after l.last (drop l.byte-index l.text)) ≡ length (numbers l.text))
