-- Twice a net owed, for any i64: where it leaves an i64, net owed alone decides the test of suspension.
-- Assumes nothing.
use mathlib.Core.Path.{◌≡◌, refl}
use mathlib.Core.Bool.{Bool, true, false}
use Prim.Native.Nat.{◌<◌, ◌≤◌}
use native.Mathlib.Omega.{arith}
use lib.IntN.{ℤ, pos, negsuc, ◌*ℤ◌}
use lib.Signed.{le_z, lt_z}
use mir.Syntax.{w64}
use mir.Val.{SFits}
use Rattle.amounts.specs.Amount.{up, down}
use Rattle.amounts.proofs.Signed.{le_z-true, le_z-false, lt_z-true, lt_z-false, times-of, one_side}

pub record Bounds (z : ℤ) : Type 0 where
  pub high : up z < 9223372036854775808
  pub low : down z ≤ 9223372036854775808

pub bounds : (z : ℤ) → SFits w64 z → Bounds z
bounds (pos n) h = record { high = omega (arith, h.sfits); low = omega arith }
bounds (negsuc n) h = record { high = omega arith; low = omega (arith, h.sfits) }

bounded : (z : ℤ) → Bounds z → SFits w64 z
bounded (pos n) h = record { sfits = omega (arith, h.high) }
bounded (negsuc n) h = record { sfits = omega (arith, h.low) }

module _ (support owed : ℤ) (fits : SFits w64 support) where
  pub above : lt_z (pos 4611686018427387903) owed ≡ true → le_z support (pos 2 *ℤ owed) ≡ true
  above h = by (le_z support (pos 2 *ℤ owed)) refl
    where
      by : (t : Bool) → le_z support (pos 2 *ℤ owed) ≡ t → t ≡ true
      by true e = refl
      by false e = absurd (omega (arith, (bounds support fits).high, (bounds support fits).low, lt_z-true (pos 4611686018427387903) owed h, le_z-false support (pos 2 *ℤ owed) e, times-of 2 owed))

  pub below : lt_z owed (negsuc 4611686018427387903) ≡ true → le_z support (pos 2 *ℤ owed) ≡ false
  below h = by (le_z support (pos 2 *ℤ owed)) refl
    where
      by : (t : Bool) → le_z support (pos 2 *ℤ owed) ≡ t → t ≡ false
      by false e = refl
      by true e = absurd (omega (arith, (bounds support fits).high, (bounds support fits).low, lt_z-true owed (negsuc 4611686018427387903) h, le_z-true support (pos 2 *ℤ owed) e, times-of 2 owed))

pub doubled : (owed : ℤ) → lt_z (pos 4611686018427387903) owed ≡ false → lt_z owed (negsuc 4611686018427387903) ≡ false → SFits w64 (pos 2 *ℤ owed)
doubled owed h g =
    bounded (pos 2 *ℤ owed)
    (record {
      high = omega (arith, lt_z-false (pos 4611686018427387903) owed h, lt_z-false owed (negsuc 4611686018427387903) g, times-of 2 owed, one_side owed);
      low = omega (arith, lt_z-false (pos 4611686018427387903) owed h, lt_z-false owed (negsuc 4611686018427387903) g, times-of 2 owed, one_side owed);
    })
