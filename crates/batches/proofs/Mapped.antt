-- A change of all places at once: what is so of each is so of the list.
-- Assumes nothing.
use mathlib.Core.Path.{◌≡◌, refl, ap, ◌∙◌}
use mathlib.Core.Bool.{Bool, true}
use mathlib.Core.List.{List, [], ◌∷◌, map}
use native.Mathlib.Omega.{arith}
use lib.IntN.{ℤ, pos, ◌+ℤ◌, +ℤ_idl}
use Rattle.amounts.specs.Lists.{sum, total, every}
use Rattle.amounts.proofs.Signed.{signed, sum_of}
use Rattle.refusals.proofs.Laws.{and_left, and_right, and_both}

module _ {A : Type 0} (g : A → A) where
  pub sum-map : {M : Type 0} (◌⊕◌ : M → M → M) (e : M) (f : A → M) (xs : List A) → sum ◌⊕◌ e f (map g xs) ≡ sum ◌⊕◌ e (λ x. f (g x)) xs
  unfolding sum
  sum-map ◌⊕◌ e f [] = refl
  sum-map ◌⊕◌ e f (x ∷ xs) = ap (λ z. ◌⊕◌ (f (g x)) z) (sum-map ◌⊕◌ e f xs)

  pub every_map : (p : A → Bool) → ((x : A) → p x ≡ true → p (g x) ≡ true) → (xs : List A) → every p xs ≡ true → every p (map g xs) ≡ true
  unfolding every
  every_map p h [] e = refl
  every_map p h (x ∷ xs) e =
      and_both (p (g x)) (every p (map g xs)) (h x (and_left (p x) (every p xs) e)) (every_map p h xs (and_right (p x) (every p xs) e))

-- two weights that agree where a test is passed
pub sum_same : {A M : Type 0} (◌⊕◌ : M → M → M) (e : M) (p : A → Bool) (f g : A → M) → ((x : A) → p x ≡ true → f x ≡ g x) → (xs : List A) → every p xs ≡ true → sum ◌⊕◌ e f xs ≡ sum ◌⊕◌ e g xs
unfolding sum every
sum_same ◌⊕◌ e p f g h [] k = refl
sum_same ◌⊕◌ e p f g h (x ∷ xs) k =
    λ i. ◌⊕◌ (h x (and_left (p x) (every p xs) k) i) (sum_same ◌⊕◌ e p f g h xs (and_right (p x) (every p xs) k) i)

pub total-add : {A : Type 0} (f g : A → ℤ) (xs : List A) → total (λ x. f x +ℤ g x) xs ≡ total f xs +ℤ total g xs
unfolding sum
total-add f g [] = refl
total-add f g (x ∷ xs) =
    let ih = total-add f g xs in
    omega (
      arith,
      signed,
      sum_of (f x +ℤ g x) (total (λ x. f x +ℤ g x) xs),
      sum_of (f x) (g x),
      sum_of (total f xs) (total g xs),
      sum_of (f x) (total f xs),
      sum_of (g x) (total g xs),
      sum_of (f x +ℤ total f xs) (g x +ℤ total g xs),
    )

pub total-none : {A : Type 0} (xs : List A) → total (λ x. pos 0) xs ≡ pos 0
unfolding sum
total-none [] = refl
total-none (x ∷ xs) = +ℤ_idl (total (λ y. pos 0) xs) ∙ total-none xs
