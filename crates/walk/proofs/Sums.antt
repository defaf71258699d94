-- Sums over places in range: 256 requirements, each within 1,300,000,000,000; and a step of a walk from the end.
-- Assumes nothing.
use mathlib.Core.Path.{◌≡◌, refl, sym, ap, ◌∙◌}
use mathlib.Core.Bool.{Bool, true, false, cond, ◌&&◌}
use mathlib.Core.List.{List, [], ◌∷◌}
use Prim.Native.Nat.{ℕ, zero, suc, ◌-◌, ◌<◌, ◌≤◌}
use native.Mathlib.Omega.{arith}
use native.Mathlib.Nat.{mul-le-mul_right}
use lib.IntN.{ℤ, ◌+ℤ◌, +ℤ_comm}
use lib.ListN.{length, get_or, drop}
use Rattle.amounts.specs.Amount.{Within}
use Rattle.amounts.specs.Lists.{sum, total, every}
use Rattle.amounts.proofs.Sums.{range-total}
use Rattle.amounts.proofs.Signed.{range-wider}
use Rattle.amounts.proofs.Walks.{drop-back}
use Rattle.refusals.proofs.Laws.{and_left, and_right, and-false}
use Rattle.records.specs.declared.types.Record.{Record}
use Rattle.records.specs.Records.{blank, ok_place}
use Rattle.records.proofs.Places.{ok-blank}
use Rattle.credit.specs.Credit.{owes}
use Rattle.credit.specs.Sums.{unbilled_of, no_sums, sums_of, with_record}
use Rattle.credit.specs.NoOverflow.{SumsWithin}
use Rattle.credit.proofs.Parts.{owes-within, unbilled-within}
use Rattle.walk.specs.Summing.{sums_in}

-- every place of the list, and past its end the blank one, passes
pub every_get : (p : Record → Bool) (l : List Record) (k : ℕ) → p blank ≡ true → every p l ≡ true → p (get_or l k blank) ≡ true
unfolding every
every_get p [] k hb h = hb
every_get p (r ∷ rs) zero hb h = and_left (p r) (every p rs) h
every_get p (r ∷ rs) (suc k) hb h = every_get p rs k hb (and_right (p r) (every p rs) h)

module _ (l : List Record) (h : every ok_place l ≡ true) (few : length l ≤ 256) where
  total-within : (f : Record → ℤ) → ((r : Record) → ok_place r ≡ true → Within 1300000000000 (f r)) → Within 332800000000000 (total f l)
  total-within f each =
      range-wider (range-total f blank 1300000000000 1300000000000 l (λ k lt. each (get_or l k blank) (every_get ok_place l k ok-blank h)))
      (omega (arith, mul-le-mul_right 1300000000000 few)) (omega (arith, mul-le-mul_right 1300000000000 few))

  pub sums-within : SumsWithin 332800000000000 (sums_of l)
  sums-within = record { unbilled = total-within unbilled_of unbilled-within; owed = total-within owes owes-within }

-- of all places, or none
pub sums-in-within : (l : List Record) → length l ≤ 256 → SumsWithin 332800000000000 (sums_in l)
unfolding sums_in
sums-in-within l few = by (every ok_place l) refl
  where
    by : (t : Bool) → every ok_place l ≡ t → SumsWithin 332800000000000 (cond t (sums_of l) no_sums)
    by true h = sums-within l h few
    by false h = record { unbilled = omega arith; owed = omega arith }

-- a step back, as a walk from the end takes it
total-back : (f : Record → ℤ) (l : List Record) (i : ℕ) → 0 < i → i ≤ length l → total f (drop (i - 1) l) ≡ f (get_or l (i - 1) blank) +ℤ total f (drop i l)
unfolding sum
total-back f l i h g = ap (total f) (drop-back l i blank h g)

pub sums-back : (l : List Record) (i : ℕ) → 0 < i → i ≤ length l → with_record (sums_of (drop i l)) (get_or l (i - 1) blank) ≡ sums_of (drop (i - 1) l)
sums-back l i h g = λ j. record { unbilled = back unbilled_of j; owed = back owes j }
  where
    back : (f : Record → ℤ) → (total f (drop i l) +ℤ f (get_or l (i - 1) blank)) ≡ total f (drop (i - 1) l)
    back f = +ℤ_comm (total f (drop i l)) (f (get_or l (i - 1) blank)) ∙ sym (total-back f l i h g)

pub every_back : {A : Type 0} (p : A → Bool) (l : List A) (i : ℕ) (d : A) → 0 < i → i ≤ length l → every p (drop (i - 1) l) ≡ (p (get_or l (i - 1) d) && every p (drop i l))
unfolding every
every_back p l i d h g = rw (drop-back l i d h g)

-- a place further on that does not pass
pub every_drop : {A : Type 0} (p : A → Bool) (l : List A) (n : ℕ) → every p (drop n l) ≡ false → every p l ≡ false
unfolding every
every_drop p l zero h = h
every_drop p [] (suc n) h = h
every_drop p (x ∷ xs) (suc n) h = and-false (p x) (every p xs) (every_drop p xs n h)
