-- The kept totals are right exactly where they are equal to the sums.
-- Assumes nothing.
use mathlib.Core.Path.{◌≡◌, refl}
use mathlib.Core.Bool.{Bool, true, false}
use native.Mathlib.Omega.{arith}
use lib.IntN.{ℤ}
use lib.Signed.{le_z}
use Rattle.amounts.proofs.Signed.{signed, le_z-true, le_z-false}
use Rattle.refusals.proofs.Laws.{and_left, and_right, and_both}
use Rattle.credit.specs.Account.{Account, same_cents, keeps_totals}

same-eq : (a b : ℤ) → same_cents a b ≡ true → a ≡ b
unfolding same_cents
same-eq a b h = omega (arith, signed, le_z-true a b (and_left (le_z a b) (le_z b a) h), le_z-true b a (and_right (le_z a b) (le_z b a) h))

le-own : (a : ℤ) → le_z a a ≡ true
le-own a = by (le_z a a) refl
  where
    by : (t : Bool) → le_z a a ≡ t → t ≡ true
    by true e = refl
    by false e = absurd (omega (arith, le_z-false a a e))

same-own : (a : ℤ) → same_cents a a ≡ true
unfolding same_cents
same-own a = and_both (le_z a a) (le_z a a) (le-own a) (le-own a)

module _ (a : Account) (held owed : ℤ) (h : keeps_totals a held owed ≡ true) where
  pub keeps-held : a.held ≡ held
  unfolding keeps_totals
  keeps-held = same-eq a.held held (and_left (same_cents a.held held) (same_cents a.owed owed) h)

  pub keeps-owed : a.owed ≡ owed
  unfolding keeps_totals
  keeps-owed = same-eq a.owed owed (and_right (same_cents a.held held) (same_cents a.owed owed) h)

pub keeps-own : (a : Account) → keeps_totals a a.held a.owed ≡ true
unfolding keeps_totals
keeps-own a = and_both (same_cents a.held a.held) (same_cents a.owed a.owed) (same-own a.held) (same-own a.owed)
