-- The two lists of a message, of the points that they bring: which points, how many, and a test of each.
-- Assumes nothing.
use mathlib.Core.Path.{◌≡◌, refl, ap, ◌∙◌}
use mathlib.Core.Bool.{Bool, true, false, ◌&&◌}
use mathlib.Core.List.{List, [], ◌∷◌, ◌++◌, map}
use Prim.Native.Nat.{ℕ, suc, ◌≤◌}
use lib.Dec.{leb, eqb}
use lib.IntN.{ℤ}
use lib.ListN.{length, length-map}
use borrow.Author.Tests.{le-leb, eq-eqb}
use Rattle.amounts.specs.Limits.{between}
use Rattle.amounts.specs.Lists.{every}
use Rattle.refusals.proofs.Laws.{and_both}
use Rattle.bids.specs.Points.{Point, curve}

-- 01, Messages and stages: 'Points come as two lent lists of equal length, MWh and prices'
abbrev pub mwhs_of : List Point → List ℕ
mwhs_of l = map (λ (q : Point). q.mwh) l

abbrev pub prices_of : List Point → List ℤ
prices_of l = map (λ (q : Point). q.price) l

pub curve-of : (l : List Point) → curve (mwhs_of l) (prices_of l) ≡ l
curve-of [] = refl
curve-of (q ∷ qs) = ap (λ (l : List Point). q ∷ l) (curve-of qs)

module _ {A B : Type 0} (f : A → B) where
  pub map-length : (l : List A) → length (map f l) ≡ length l
  map-length [] = refl
  map-length (x ∷ xs) = ap suc (map-length xs)

  pub every_map : (t : B → Bool) (l : List A) → every t (map f l) ≡ every (λ x. t (f x)) l
  unfolding every
  every_map t [] = refl
  every_map t (x ∷ xs) = ap (λ (b : Bool). t (f x) && b) (every_map t xs)

and_assoc : (a b c : Bool) → (a && (b && c)) ≡ ((a && b) && c)
and_assoc true b c = refl
and_assoc false b c = refl

pub every_append : {A : Type 0} (t : A → Bool) (xs ys : List A) → every t (xs ++ ys) ≡ (every t xs && every t ys)
unfolding every
every_append t [] ys = refl
every_append t (x ∷ xs) ys = ap (λ (b : Bool). t x && b) (every_append t xs ys) ∙ and_assoc (t x) (every t xs) (every t ys)

-- row 5 does not apply to 1 to 64 points
pub counted : (l : List Point) → 1 ≤ length l → length l ≤ 64 → (between 1 64 (length (mwhs_of l)) && eqb (length (mwhs_of l)) (length (prices_of l))) ≡ true
counted l some few =
    rw (length-map l (λ (q : Point). q.mwh), length-map l (λ (q : Point). q.price))
    (and_both (leb 1 (length l) && leb (length l) 64) (eqb (length l) (length l)) (and_both (leb 1 (length l)) (leb (length l) 64) (le-leb 1 (length l) some) (le-leb (length l) 64 few)) (eq-eqb (length l) (length l) refl))
