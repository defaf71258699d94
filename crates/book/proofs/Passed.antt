-- Laws of the walk: what a definition over the places from i - 1 on says of the place at hand and of those passed, and of the place that a search finds.
-- Assumes nothing.
use mathlib.Core.Path.{◌≡◌, refl, sym, ap, ◌∙◌}
use mathlib.Core.Bool.{Bool, true, false, cond}
use mathlib.Core.List.{List, [], ◌∷◌, map}
use mathlib.Core.Option.{some}
use Prim.Native.Nat.{ℕ, suc, ◌+◌, ◌-◌, ◌<◌, ◌≤◌}
use native.Mathlib.Numerals.{add-one}
use native.Mathlib.Omega.{arith}
use lib.Dec.{eqb}
use borrow.Author.Tests.{eq-eqb, ne_eqb, eqb-true, eqb-false}
use lib.ListN.{length, get_or, drop, set, length-map, get_or-map}
use lib.Seq.{get_or-set_same, get_or-set_other, ext_get_or}
use mathlib.Core.Logic.{⊎_elim}
use native.Mathlib.Nat.{eq-or-lt_of_le}
use Rattle.amounts.proofs.Walks.{drop-back}
use Rattle.std.specs.Prelude.{Option, Some, None, is_none}
use Rattle.records.specs.declared.types.Record.{Record}
use Rattle.records.specs.Records.{blank}
use Rattle.walk.specs.Walk.{standing}
use Rattle.book.specs.Places.{find, swap, missing, or_else_blank}

-- one place further on
abbrev pub further : Option ℕ → Option ℕ
further None = None
further (Some k) = Some (suc k)

-- the first place that passes, if one does
unfoldable pub position : {A : Type 0} → (A → Bool) → List A → Option ℕ
position p [] = None
position p (x ∷ xs) = cond (p x) (Some 0) (further (position p xs))

-- counted from a place that stands before it
abbrev pub from : ℕ → Option ℕ → Option ℕ
from i None = None
from i (Some k) = Some (i + k)

pub from-start : (o : Option ℕ) → from 0 o ≡ o
from-start None = refl
from-start (Some k) = ap Some (omega arith)

-- one of so many places
abbrev pub Inside : ℕ → Option ℕ → Type 0
Inside n None = Unit {0}
Inside n (Some k) = k < n

-- ---- a walk from the end
module _ {A : Type 0} (p : A → Bool) (l : List A) (i : ℕ) (d : A) (h : 0 < i) (g : i ≤ length l) where
  position-by : (b : Bool) (o k : Option ℕ) → o ≡ from i k → cond b (Some (i - 1)) o ≡ from (i - 1) (cond b (Some 0) (further k))
  position-by true o k e = ap Some (omega arith)
  position-by false o None e = e
  position-by false o (Some k) e = e ∙ ap Some (omega arith)

  -- the place that passes, counted from the start: the one at hand, or the one known so far
  pub position_back : (o : Option ℕ) → o ≡ from i (position p (drop i l)) → cond (p (get_or l (i - 1) d)) (Some (i - 1)) o ≡ from (i - 1) (position p (drop (i - 1) l))
  unfolding position
  position_back o e = rw (drop-back l i d h g) (position-by (p (get_or l (i - 1) d)) o (position p (drop i l)) e)

-- ---- the place that a search finds

-- a store at a place, if there is one
abbrev pub stored : {A : Type 0} → List A → Option ℕ → A → List A
stored xs None r = xs
stored xs (Some k) r = set xs k r

module _ {A : Type 0} (p : A → Bool) where
  swap-by : (r x : A) (xs : List A) (b : Bool) (o : Option ℕ) → swap p r xs ≡ stored xs o r → cond b (r ∷ xs) (x ∷ swap p r xs) ≡ stored (x ∷ xs) (cond b (Some 0) (further o)) r
  swap-by r x xs true o ih = refl
  swap-by r x xs false None ih = ap (λ (l : List A). x ∷ l) ih
  swap-by r x xs false (Some k) ih = ap (λ (l : List A). x ∷ l) ih

  -- overwriting the first place that passes is a store there
  pub swap-stored : (r : A) (xs : List A) → swap p r xs ≡ stored xs (position p xs) r
  unfolding swap position
  swap-stored r [] = refl
  swap-stored r (x ∷ xs) = swap-by r x xs (p x) (position p xs) (swap-stored r xs)

  none-by : (x : A) (xs : List A) (b : Bool) (o : Option ℕ) → missing (find p xs) ≡ is_none o → missing (cond b (some x) (find p xs)) ≡ is_none (cond b (Some 0) (further o))
  unfolding missing
  none-by x xs true o ih = refl
  none-by x xs false None ih = ih
  none-by x xs false (Some k) ih = ih

  -- nothing is found exactly where no place passes
  pub missing-position : (xs : List A) → missing (find p xs) ≡ is_none (position p xs)
  unfolding find position missing
  missing-position [] = refl
  missing-position (x ∷ xs) = none-by x xs (p x) (position p xs) (missing-position xs)

  inside-by : (n : ℕ) (b : Bool) (o : Option ℕ) → Inside n o → Inside (suc n) (cond b (Some 0) (further o))
  inside-by n true o ih = omega arith
  inside-by n false None ih = tt
  inside-by n false (Some k) ih = omega (arith, ih)

  pub inside : (xs : List A) → Inside (length xs) (position p xs)
  unfolding position
  inside [] = tt
  inside (x ∷ xs) = inside-by (length xs) (p x) (position p xs) (inside xs)

module _ (p : Record → Bool) where
  find-by : (x : Record) (xs : List Record) (b : Bool) (o : Option ℕ) → or_else_blank blank (find p xs) ≡ standing xs o
      → or_else_blank blank (cond b (some x) (find p xs)) ≡ standing (x ∷ xs) (cond b (Some 0) (further o))
  unfolding or_else_blank
  find-by x xs true o ih = refl
  find-by x xs false None ih = ih
  find-by x xs false (Some k) ih = ih

  -- what is found stands there
  pub find-standing : (xs : List Record) → or_else_blank blank (find p xs) ≡ standing xs (position p xs)
  unfolding find position or_else_blank
  find-standing [] = refl
  find-standing (x ∷ xs) = find-by x xs (p x) (position p xs) (find-standing xs)

-- ---- the same by how many places stand before it

-- how many places stand before the first that passes; all of them where none does
unfoldable pub index : {A : Type 0} → (A → Bool) → List A → ℕ
index p [] = 0
index p (x ∷ xs) = cond (p x) 0 (index p xs + 1)

module _ {A : Type 0} (p : A → Bool) (l : List A) (i : ℕ) (d : A) (h : 0 < i) (g : i ≤ length l) where
  index-by : (b : Bool) (n : ℕ) → n ≡ i + index p (drop i l) → cond b (i - 1) n ≡ (i - 1) + cond b 0 (index p (drop i l) + 1)
  index-by true n e = omega arith
  index-by false n e = omega arith

  -- the place that passes, counted from the start: the one at hand, or the one known so far
  pub index_back : (n : ℕ) → n ≡ i + index p (drop i l) → cond (p (get_or l (i - 1) d)) (i - 1) n ≡ (i - 1) + index p (drop (i - 1) l)
  unfolding index
  index_back n e = rw (drop-back l i d h g) (index-by (p (get_or l (i - 1) d)) n e)

module _ {A : Type 0} (p : A → Bool) where
  set-by : (r x : A) (xs : List A) (b : Bool) → swap p r xs ≡ set xs (index p xs) r → cond b (r ∷ xs) (x ∷ swap p r xs) ≡ set (x ∷ xs) (cond b 0 (index p xs + 1)) r
  set-by r x xs true ih = refl
  set-by r x xs false ih = rw add-one (ap (λ (l : List A). x ∷ l) ih)

  -- overwriting the first place that passes is a store at its index
  pub swap-set : (r : A) (xs : List A) → swap p r xs ≡ set xs (index p xs) r
  unfolding swap index
  swap-set r [] = refl
  swap-set r (x ∷ xs) = set-by r x xs (p x) (swap-set r xs)

  index-none : (x : A) (xs : List A) (b : Bool) → missing (find p xs) ≡ eqb (index p xs) (length xs) → missing (cond b (some x) (find p xs)) ≡ eqb (cond b 0 (index p xs + 1)) (suc (length xs))
  unfolding missing
  index-none x xs true ih = sym (ne_eqb 0 (suc (length xs)) (λ e. omega arith))
  index-none x xs false ih = ih ∙ by (eqb (index p xs) (length xs)) refl
    where
      by : (b : Bool) → eqb (index p xs) (length xs) ≡ b → b ≡ eqb (index p xs + 1) (suc (length xs))
      by true e = sym (eq-eqb (index p xs + 1) (suc (length xs)) (omega (arith, eqb-true (index p xs) (length xs) e)))
      by false e = sym (ne_eqb (index p xs + 1) (suc (length xs)) (λ q. eqb-false (index p xs) (length xs) e (omega arith)))

  -- no place passes exactly where the index is the count of places
  pub missing-index : (xs : List A) → missing (find p xs) ≡ eqb (index p xs) (length xs)
  unfolding find index missing
  missing-index [] = refl
  missing-index (x ∷ xs) = index-none x xs (p x) (missing-index xs)

module _ {A : Type 0} (p : A → Bool) (d : A) where
  get-by : (x : A) (xs : List A) (b : Bool) → or_else_blank d (find p xs) ≡ get_or xs (index p xs) d → or_else_blank d (cond b (some x) (find p xs)) ≡ get_or (x ∷ xs) (cond b 0 (index p xs + 1)) d
  unfolding or_else_blank
  get-by x xs true ih = refl
  get-by x xs false ih = rw add-one ih

  -- what is found stands at the index; past the last place nothing does
  pub find-get : (xs : List A) → or_else_blank d (find p xs) ≡ get_or xs (index p xs) d
  unfolding find index or_else_blank
  find-get [] = refl
  find-get (x ∷ xs) = get-by x xs (p x) (find-get xs)

-- ---- a list made place by place, from the end
module _ {A : Type 0} (f : A → ℕ) (d : A) (l : List A) where
  -- one place more
  pub set_back : (made : List ℕ) (i n : ℕ) → 0 < i → i ≤ length made → n ≡ f (get_or l (i - 1) d) → ((k : ℕ) → i ≤ k → k < length made → get_or made k 0 ≡ f (get_or l k d))
      → (k : ℕ) → i - 1 ≤ k → k < length made → get_or (set made (i - 1) n) k 0 ≡ f (get_or l k d)
  set_back made i n more le e h k from to =
      ⊎_elim (λ (q : i - 1 ≡ k). rw (sym q) (get_or-set_same made (i - 1) n 0 (omega arith) ∙ e)) (λ (q : i - 1 < k). get_or-set_other made (i - 1) k n 0 (λ r. omega arith) ∙ h k (omega arith) to) (eq-or-lt_of_le from)

  -- all of them
  pub mapped : (made : List ℕ) → f d ≡ 0 → length made ≡ length l → ((k : ℕ) → k < length l → get_or made k 0 ≡ f (get_or l k d)) → made ≡ map f l
  mapped made z e h =
      ext_get_or 0 made (map f l) (e ∙ sym (length-map l f))
      (λ k lt. h k (omega arith) ∙ sym (get_or-map f l k d) ∙ ap (λ (n : ℕ). get_or (map f l) k n) z)
