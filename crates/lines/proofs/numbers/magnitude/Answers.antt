-- `numbers::magnitude`: what was read, with what follows it, is always the same number.
use mathlib.Core.Path.{sym, ◌∙◌}
use native.Mathlib.Omega.{arith}
use Rattle.lines.proofs.Reading.{read-stop, read-on, read-end}
use Rattle.lines.proofs.numbers.magnitude.Goals as goal

pub returns-then-not-is_ascii_digit : goal.returns-then-not-is_ascii_digit
returns-then-not-is_ascii_digit c =
    sym (c.loop-byte.invariant ∙ read-stop c.args.text.now c.loop-byte.byte-index (omega arith) c.loop-byte.magnitude (cc c.if-not-is_ascii_digit.true))

pub loop-byte-preserved : goal.loop-byte-preserved
loop-byte-preserved c =
    rw c.longer-magnitude.ensures (c.loop-byte.invariant ∙ read-on c.args.text.now c.loop-byte.byte-index (omega arith) c.loop-byte.magnitude (cc c.if-not-is_ascii_digit.false))

pub returns : goal.returns
returns c = sym (c.loop-byte.invariant ∙ read-end c.args.text.now c.loop-byte.byte-index (omega arith) c.loop-byte.magnitude)
