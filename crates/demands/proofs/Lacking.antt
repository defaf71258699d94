-- A number that no row of a table has is not what the table gives.
-- Assumes nothing.
use mathlib.Core.Path.{◌≡◌, sym, ap, ◌∙◌}
use mathlib.Core.Bool.{Bool, true, false, not, cond, ◌&&◌}
use mathlib.Core.List.{List, [], ◌∷◌, ◌++◌}
use Prim.Native.Nat.{ℕ}
use lib.Dec.{eqb}
use borrow.Author.Tests.{eq-eqb}
use Rattle.refusals.specs.Refusals.{Row, first}
use Rattle.refusals.proofs.Laws.{and_left, and_right, and_both, never}

module _ (n : ℕ) where
  -- a test that is computed, whatever the rows say
  unfoldable pub lacks : List Row → Bool
  lacks [] = true
  lacks (r ∷ rs) = not (eqb r.number n) && lacks rs

  pub lacks-append : (xs ys : List Row) → lacks xs ≡ true → lacks ys ≡ true → lacks (xs ++ ys) ≡ true
  unfolding lacks
  lacks-append [] ys h k = k
  lacks-append (r ∷ xs) ys h k =
      and_both (not (eqb r.number n)) (lacks (xs ++ ys)) (and_left (not (eqb r.number n)) (lacks xs) h) (lacks-append xs ys (and_right (not (eqb r.number n)) (lacks xs) h) k)

  lacks-by : (t : Bool) (r : Row) (rs : List Row) → not (eqb r.number n) ≡ true → (first rs ≡ n → ⊥) → cond t r.number (first rs) ≡ n → ⊥
  lacks-by true r rs h ih e = never (sym (ap not (eq-eqb r.number n e)) ∙ h)
  lacks-by false r rs h ih e = ih e

  -- 0 is given where no row applies
  pub lacks-first : (0 ≡ n → ⊥) → (rs : List Row) → lacks rs ≡ true → first rs ≡ n → ⊥
  unfolding lacks first
  lacks-first some [] h e = some e
  lacks-first some (r ∷ rs) h e =
      lacks-by r.applies r rs (and_left (not (eqb r.number n)) (lacks rs) h) (lacks-first some rs (and_right (not (eqb r.number n)) (lacks rs) h)) e
