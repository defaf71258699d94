-- A test of each element is the library's; and a walk that tests each, from the first on.
-- Assumes nothing.
use mathlib.Core.Path.{◌≡◌, refl, sym, ap, ◌∙◌}
use mathlib.Core.Bool.{Bool, true, false, ◌&&◌}
use mathlib.Core.List.{List, [], ◌∷◌}
use Prim.Native.Nat.{ℕ, suc, ◌+◌, ◌<◌, ◌≤◌}
use native.Mathlib.Omega.{arith}
use lib.ListN.{length, get_or, drop}
use lib.Seq.{drop-cons, drop-length}
use Rattle.std.specs.List.{list_all}
use Rattle.amounts.specs.Lists.{every}

module _ {A : Type 0} (p : A → Bool) where
  as_list_all : (xs : List A) → every p xs ≡ list_all p xs
  unfolding every
  as_list_all [] = refl
  as_list_all (x ∷ xs) = ap (λ (b : Bool). p x && b) (as_list_all xs)

  pub every_from_list_all : {b : Bool} (xs : List A) → b ≡ list_all p xs → b ≡ every p xs
  every_from_list_all xs e = e ∙ sym (as_list_all xs)

  grouped : (a b c : Bool) → ((a && b) && c) ≡ (a && (b && c))
  grouped true b c = refl
  grouped false b c = refl

  kept : (b : Bool) → (b && true) ≡ b
  kept true = refl
  kept false = refl

  -- One element more is passed.
  pub every_on : (xs : List A) (i : ℕ) (d : A) (fit : Bool) → i < length xs → ((fit && p (get_or xs i d)) && every p (drop (i + 1) xs)) ≡ (fit && every p (drop i xs))
  unfolding every
  every_on xs i d fit h =
      let e : suc i ≡ i + 1 = omega arith in
      let cut : drop i xs ≡ get_or xs i d ∷ drop (i + 1) xs = drop-cons xs i d h ∙ ap (λ (n : ℕ). get_or xs i d ∷ drop n xs) e in
      grouped fit (p (get_or xs i d)) (every p (drop (i + 1) xs)) ∙ ap (λ (l : List A). fit && every p l) (sym cut)

  -- At the end none is left.
  pub every_end : (xs : List A) (i : ℕ) (fit : Bool) → length xs ≤ i → i ≤ length xs → (fit && every p (drop i xs)) ≡ fit
  unfolding every
  every_end xs i fit h g =
      let e : i ≡ length xs = omega arith in
      ap (λ (n : ℕ). fit && every p (drop n xs)) e ∙ ap (λ (l : List A). fit && every p l) (drop-length xs) ∙ kept fit
