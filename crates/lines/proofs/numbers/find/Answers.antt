-- `numbers::find`: the number looked for is always the one with `left` before it in what follows `last`.
use mathlib.Core.Path.{refl, ◌∙◌}
use native.Mathlib.Omega.{arith}
use Rattle.std.proofs.lemmas.List.{take_rest}
use Rattle.lines.specs.Numbers.{number_at, numbers, lacking, number_of}
use Rattle.lines.proofs.Reading.{numbers-begin, numbers-pass, later, none_left}
use Rattle.lines.proofs.numbers.find.Goals as goal
use Rattle.lines.proofs.numbers.find.Goals.{then-begins+else-left-eq0, else-begins}

pub loop-at-init : goal.loop-at-init
unfolding number_of numbers
loop-at-init c = refl

pub returns-then-left-eq0-clause-found : goal.returns-then-left-eq0-clause-found
unfolding number_at
returns-then-left-eq0-clause-found c =
    let at = c.loop-at in
    c.loop-at.invariant
    ∙ rw (numbers-begin c.args.text.now at.at (omega arith) at.last (cc c.if-begins.true), c.if-left-eq0.true, c.magnitude.ensures, take_rest c.args.text.now at.at)

pub loop-at-preserved : goal.loop-at-preserved
loop-at-preserved c =
    elim c.if-begins.branch [
      | then-begins+else-left-eq0 w ↦ rw (w.left-is, w.last-is) (c.loop-at.invariant ∙ rw (numbers-begin c.args.text.now c.loop-at.at (omega arith) c.loop-at.last (cc w.if-begins.true)) (later _ _ c.loop-at.left lacking (omega arith)))
      | else-begins w ↦ rw (w.left-is, w.last-is) (c.loop-at.invariant ∙ rw (numbers-pass c.args.text.now c.loop-at.at (omega arith) c.loop-at.last (cc w.if-begins.false)))
    ]

pub returns-clause-none : goal.returns-clause-none
returns-clause-none c = c.loop-at.invariant ∙ rw (none_left c.args.text.now c.loop-at.at (omega arith) c.loop-at.last)
