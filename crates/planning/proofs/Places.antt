-- A place that is overwritten and then given back, and one that is overwritten twice.
-- Assumes nothing.
use mathlib.Core.Path.{◌≡◌, refl, sym, ap}
use mathlib.Core.Bool.{Bool, true, false, cond}
use mathlib.Core.List.{List, [], ◌∷◌}
use mathlib.Core.Option.{none, some}
use Rattle.book.specs.Places.{find, swap}
use Rattle.book.proofs.Places.{none≢some}

module _ {A : Type 0} where
  swap-back-at : (p q : A → Bool) (r x old : A) (xs : List A) (b d : Bool) → q x ≡ d → cond b (some x) (find p xs) ≡ some old → cond d (some x) (find q xs) ≡ none → q r ≡ true
      → (find p xs ≡ some old → find q xs ≡ none → swap q old (swap p r xs) ≡ xs) → swap q old (cond b (r ∷ xs) (x ∷ swap p r xs)) ≡ x ∷ xs
  unfolding swap
  swap-back-at p q r x old xs b true e h k hr ih = none≢some x (sym k)
  swap-back-at p q r x old xs true false e h k hr ih = let w : old ≡ x = cc in rw hr (ap (λ z. z ∷ xs) w)
  swap-back-at p q r x old xs false false e h k hr ih = rw e (ap (λ z. x ∷ z) (ih h k))

  -- what was put in the place that p finds, and is what q finds, is taken out again
  pub swap-back : (p q : A → Bool) (r old : A) (xs : List A) → find p xs ≡ some old → find q xs ≡ none → q r ≡ true → swap q old (swap p r xs) ≡ xs
  unfolding find swap
  swap-back p q r old [] h k hr = refl
  swap-back p q r old (x ∷ xs) h k hr = swap-back-at p q r x old xs (p x) (q x) refl h k hr (λ a b. swap-back p q r old xs a b hr)

  swap-twice-at : (p : A → Bool) (r s x : A) (xs : List A) (b : Bool) → p x ≡ b → p r ≡ true → swap p s (swap p r xs) ≡ swap p s xs
      → swap p s (cond b (r ∷ xs) (x ∷ swap p r xs)) ≡ cond b (s ∷ xs) (x ∷ swap p s xs)
  unfolding swap
  swap-twice-at p r s x xs true e hr ih = rw hr refl
  swap-twice-at p r s x xs false e hr ih = rw e (ap (λ z. x ∷ z) ih)

  -- of two that are put in one place, the second stands
  pub swap-twice : (p : A → Bool) (r s : A) (xs : List A) → p r ≡ true → swap p s (swap p r xs) ≡ swap p s xs
  unfolding swap
  swap-twice p r s [] hr = refl
  swap-twice p r s (x ∷ xs) hr = swap-twice-at p r s x xs (p x) refl hr (swap-twice p r s xs hr)
