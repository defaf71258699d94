-- What the tests of a kind's row say of an amount, a differential and a number of MWh.
-- Assumes nothing.
use mathlib.Core.Path.{◌≡◌, refl, subst}
use mathlib.Core.Bool.{Bool, true, false, ◌&&◌, ◌||◌}
use Prim.Native.Nat.{ℕ, ◌≤◌}
use native.Mathlib.Omega.{arith}
use borrow.Author.Tests.{leb-true}
use lib.Dec.{T, eqb}
use lib.IntN.{ℤ, pos, neg_ℤ}
use lib.Signed.{le_z}
use Rattle.amounts.specs.Amount.{Range, in_range}
use Rattle.amounts.specs.Limits.{is_price, is_nil, is_pending}
use Rattle.amounts.proofs.Signed.{range-says, range-true, range-wider}
use Rattle.refusals.proofs.Laws.{and_left, and_right, and_both}
use Rattle.kinds.specs.Kinds.{Rules, wheel, unless_exempt, rules_of, differential_fits, pending_fits, prices_fit}
use Rattle.kinds.proofs.ByKind.{all-rules, rules-4}

-- ---- a range, as a test
is_true : (t : Bool) → T t → t ≡ true
is_true true h = refl
is_true false h = absurd h

pub range-test : (lo hi : ℕ) (z : ℤ) → Range lo hi z → in_range lo hi z ≡ true
range-test lo hi z r =
    let says = range-says lo hi z r in
    and_both (le_z (neg_ℤ (pos lo)) z) (le_z z (pos hi)) (is_true (le_z (neg_ℤ (pos lo)) z) says.0.le) (is_true (le_z z (pos hi)) says.1.le)

-- ---- a requirement of stages 1 and 2
module _ (kind : ℕ) (z : ℤ) where
  pub pending-range : (r : Rules) (hi : ℕ) → rules_of kind ≡ r → r.cents ≡ pos hi → Range 0 hi z → pending_fits (rules_of kind) z ≡ true
  pending-range r hi e c h = rw (e, c) (range-test 0 hi z h)

  -- whatever the kind, it is one of an import's range
  pub pending-wide : pending_fits (rules_of kind) z ≡ true → Range 0 640000000000 z
  pending-wide =
      all-rules (λ (r : Rules). pending_fits r z ≡ true → Range 0 640000000000 z) (range-true 0 640000000000 z) (range-true 0 640000000000 z) (range-true 0 640000000000 z)
      (λ h. range-wider (range-true 0 20000000000 z h) (omega arith) (omega arith))
      (range-true 0 640000000000 z)
      (range-true 0 640000000000 z)
      (λ h. range-wider (range-true 0 0 z h) (omega arith) (omega arith))
      kind

  pub pending-bid : pending_fits (rules_of kind) z ≡ true → is_pending z ≡ true
  pending-bid h = range-test 0 640000000000 z (pending-wide h)

  pub pending-wheel : kind ≡ wheel → pending_fits (rules_of kind) z ≡ true → in_range 0 20000000000 z ≡ true
  pending-wheel e h = subst (λ (r : Rules). pending_fits r z ≡ true) (rules-4 kind e) h

pub exempt-range : (exempt : Bool) (hi : ℕ) (z : ℤ) → Range 0 hi z → Range 0 hi (unless_exempt exempt z)
unfolding unless_exempt
exempt-range true hi z r = omega arith
exempt-range false hi z r = r

-- ---- a differential, whatever the kind
pub differential-small : (kind d : ℕ) → differential_fits (rules_of kind) d ≡ true → d ≤ 1000000
differential-small kind d =
    all-rules (λ (r : Rules). differential_fits r d ≡ true → d ≤ 1000000) (leb-true d 1000000) (leb-true d 1000000) (λ h. omega (arith, leb-true d 0 h))
    (λ h. omega (arith, leb-true d 0 h))
    (λ h. omega (arith, leb-true d 0 h))
    (leb-true d 1000000)
    (λ h. omega (arith, leb-true d 0 h))
    kind

-- ---- the prices of a post or a finish
pub record Prices (p q : ℤ) : Type 0 where
  pub first : is_price p ≡ true
  pub second : is_price q ≡ true

pub prices : (r : Rules) (p q : ℤ) → prices_fit r p q ≡ true → Prices p q
prices r p q h =
    let both = and_left (is_price p && is_price q) (eqb r.prices 2 || is_nil q) h in
    record { first = and_left (is_price p) (is_price q) both; second = and_right (is_price p) (is_price q) both }
