-- The windows contradict exactly when they are not consistent.
use mathlib.Core.Path.{◌≡◌, subst}
use mathlib.Core.Bool.{true, false}
use native.Mathlib.Omega.{arith}
use Rattle.std.proofs.lemmas.Bool.Decides.{nat_tests}
use lib.Dec.{T}
use Rattle.history.specs.Test.{contradict, Consistent}
use Rattle.history.specs.declared.History.{History}

pub never : {X : Type 0} → true ≡ false → X
never e = absurd (subst T e tt)

pub consistent : (h : History) → contradict h ≡ false → Consistent h
unfolding contradict
consistent h e = grind (arith, nat_tests)

pub no-contradiction : (h : History) → Consistent h → contradict h ≡ false
unfolding contradict
no-contradiction h c = grind (arith, nat_tests)
