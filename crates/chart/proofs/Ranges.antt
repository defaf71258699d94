-- A test that antt computes at each number of a range holds at every number of it.
use mathlib.Core.Path.{◌≡◌, refl, sym, subst}
use mathlib.Core.Bool.{Bool, true, false, ◌&&◌}
use Prim.Native.Nat.{ℕ, zero, suc, ◌+◌, ◌≤◌, ◌<◌}
use native.Mathlib.Omega.{arith}
use Rattle.std.proofs.lemmas.Bool.{and_parts}
use borrow.Author.Tests.{eqb-true, eqb-false}
use lib.Dec.{T, eqb}

pub never : {X : Type 0} → false ≡ true → X
never e = absurd (subst T (sym e) tt)

pub left : (a b : Bool) → (a && b) ≡ true → a ≡ true
left true b e = refl
left false b e = e

pub right : (a b : Bool) → (a && b) ≡ true → b ≡ true
right true b e = e
right false b e = never e

-- the test at `count` numbers from `first` on
abbrev pub every : (ℕ → Bool) → ℕ → ℕ → Bool
every f first zero = true
every f first (suc count) = f first && every f (suc first) count

pub at : (f : ℕ → Bool) (first count : ℕ) → every f first count ≡ true → (n : ℕ) → first ≤ n → n < first + count → f n ≡ true
at f first zero e n low high = absurd (omega arith)
at f first (suc count) e n low high =
    by (eqb n first) refl (λ (above : first < n). at f (suc first) count (and_parts (f first) (every f (suc first) count) e).1 n above (omega arith))
  where
    by : (b : Bool) → eqb n first ≡ b → (first < n → f n ≡ true) → f n ≡ true
    by true h later = rw (eqb-true n first h) (and_parts (f first) (every f (suc first) count) e).0
    by false h later =
        let other : n ≡ first → ⊥ = eqb-false n first h in
        later (omega arith)

pub equal : (f g : ℕ → ℕ) (first count : ℕ) → every (λ n. eqb (f n) (g n)) first count ≡ true → (n : ℕ) → first ≤ n → n < first + count → f n ≡ g n
equal f g first count e n low high = eqb-true (f n) (g n) (at (λ m. eqb (f m) (g m)) first count e n low high)
