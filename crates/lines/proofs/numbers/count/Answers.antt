-- `numbers::count`: those found and those to come are always as many as the line has; none is found before its byte.
use mathlib.Core.Path.{ap, ◌∙◌}
use native.Mathlib.Omega.{arith}
use lib.ListN.{length}
use Rattle.std.specs.Int.{from_bool}
use Rattle.lines.specs.Numbers.{Number, numbers}
use Rattle.lines.proofs.Reading.{at_most_one, count-on, none_left}
use Rattle.lines.proofs.numbers.count.Goals as goal

pub loop-byte-init : goal.loop-byte-init
unfolding numbers
loop-byte-init c = (omega arith, omega arith)

pub loop-byte-preserved : goal.loop-byte-preserved
loop-byte-preserved c =
    let at = c.loop-byte in
    let begun = c.from-count.ensures ∙ ap from_bool c.begins.ensures in (
      omega (arith, c.from-count.ensures, at_most_one c.begins.result),
      omega (arith, begun, count-on c.args.text.now at.byte-index (omega arith) at.last),
    )

pub returns : goal.returns
returns c =
    let text = c.args.text.now in
    let at = c.loop-byte in
    omega (arith, ap (length {A = Number}) (none_left text at.byte-index (omega arith) at.last))
