-- From a signed price to a number of cents or of MWh, by the price's sign.
-- Assumes nothing.
use mathlib.Core.Path.{◌≡◌, refl, subst}
use mathlib.Core.Bool.{true, false, cond}
use Prim.Native.Nat.{ℕ, ◌<◌, ◌≤◌, ◌^◌}
use native.Mathlib.Omega.{arith}
use lib.Dec.{T}
use lib.IntN.{ℤ, pos, negsuc, neg_ℤ, nat_abs, ◌-ℤ◌}
use lib.Signed.{lt_z, le_z, non_neg, mag}
use mir.Syntax.{w64}
use mir.Val.{Fits}
use borrow.Author.Tests.{ltb-true, lt-leb, le-leb}
use Rattle.amounts.specs.Amount.{up}
use Rattle.amounts.proofs.Signed.{signed, difference-of, up_neg, down-neg}

never : {X : Type 0} → true ≡ false → X
never e = absurd (subst T e tt)

-- ---- the price, not below 0
pub up_none : (z : ℤ) → lt_z z (pos 0) ≡ true → 0 ≡ up z
up_none (pos n) e = let h : n < 0 = ltb-true n 0 e in omega arith
up_none (negsuc n) e = refl

pub up-cast : (z : ℤ) → mag z < 2 ^ 63 → lt_z z (pos 0) ≡ false → T (non_neg z) × Fits w64 (nat_abs z)
up-cast (pos n) f e = (tt, omega arith)
up-cast (negsuc n) f e = never e

pub up-some : (z : ℤ) → lt_z z (pos 0) ≡ false → nat_abs z ≡ up z
up-some (pos n) e = refl
up-some (negsuc n) e = never e

-- ---- what a point of m MWh at price z brings to the MWh at p or above
pub share-none : (m p : ℕ) (z : ℤ) → lt_z z (pos 0) ≡ true → 0 ≡ cond (le_z (pos p) z) m 0
share-none m p (pos n) e = let h : n < 0 = ltb-true n 0 e in absurd (omega arith)
share-none m p (negsuc n) e = refl

pub share-low : (m p : ℕ) (z : ℤ) → lt_z z (pos 0) ≡ false → nat_abs z < p → 0 ≡ cond (le_z (pos p) z) m 0
share-low m p (pos n) e h = simp (lt-leb p n h)
share-low m p (negsuc n) e h = never e

pub share-all : (m p : ℕ) (z : ℤ) → lt_z z (pos 0) ≡ false → p ≤ nat_abs z → m ≡ cond (le_z (pos p) z) m 0
share-all m p (pos n) e h = simp (le-leb p n h)
share-all m p (negsuc n) e h = never e

pub zero_minus : (z : ℤ) → pos 0 -ℤ z ≡ neg_ℤ z
zero_minus z = omega (arith, signed, difference-of (pos 0) z, up_neg z, down-neg z)
