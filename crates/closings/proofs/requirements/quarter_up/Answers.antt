-- `quarter_up`: what is above 0, and a quarter of it, rounded up.
use mathlib.Core.Path.{◌≡◌, ap, ◌∙◌}
use Prim.Native.Nat.{ℕ, ◌+◌, ◌/◌}
use native.Mathlib.Omega.{arith}
use lib.IntN.{pos, nat_abs}
use Rattle.amounts.specs.Amount.{up}
use Rattle.amounts.proofs.Steps.{param, lit0, got, kept, quantity, as-defined, answer, ◌larger◌}
use Rattle.closings.specs.Closings.{quarter_up}
use Rattle.closings.proofs.Laws.{floor-up}
use Rattle.closings.proofs.requirements.quarter_up.Goals as goal

above : (c : goal.After-magnitude-above) → c.magnitude-above.result ≡ up c.args.cents
above c =
    let s = c in
    c.magnitude-above.ensures ∙ ap nat_abs (kept (got c.floored.ensures (param s.ranges.cents s.requires larger lit0)) tt).is ∙ floor-up s.args.cents

pub returns : goal.returns
unfolding quarter_up
returns c =
    answer
    (as-defined (quantity {m = 640000000000} (omega (arith, above c, c.requires.high)) tt) (ap (λ (n : ℕ). pos ((n + 3) / 4)) (above c)))
    tt
    tt
