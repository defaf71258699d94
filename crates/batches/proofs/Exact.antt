-- Two lists without repetition: if each of one stands in the other and there are as many, each of the other stands in the one.
-- So one walk over the places, counting, tells whether the listed paths are exactly those pending.
-- Assumes nothing.
use mathlib.Core.Path.{◌≡◌, refl, sym, ap, ◌∙◌}
use mathlib.Core.Bool.{Bool, true, false, not, cond, ◌&&◌, ◌||◌}
use mathlib.Core.List.{List, [], ◌∷◌}
use Prim.Native.Nat.{ℕ, suc, ◌≤◌}
use native.Mathlib.Omega.{arith}
use lib.Dec.{eqb, ltb}
use lib.ListN.{length}
use borrow.Author.Tests.{eqb-true, eqb-false, eq-eqb, not-true, lt-ltb}
use Rattle.amounts.specs.Lists.{every}
use Rattle.amounts.proofs.Signed.{tested}
use Rattle.distinct.specs.Numbers.{stands_in}
use Rattle.refusals.proofs.Laws.{never, and_left, and_right, and_both}
use Rattle.keys.proofs.Laws.{by-test}
use Rattle.records.proofs.Clauses.{or_right}
use Rattle.closings.specs.Closings.{each_once}
use Rattle.batches.specs.Batches.{among, is_empty}

-- ---- where a number stands
abbrev pub Sub : List ℕ → List ℕ → Type 0
Sub xs ys = (z : ℕ) → stands_in z xs ≡ true → stands_in z ys ≡ true

stands_here : (x : ℕ) (xs : List ℕ) → stands_in x (x ∷ xs) ≡ true
unfolding stands_in
stands_here x xs = rw (eq-eqb x x refl)

stands-later : (z x : ℕ) (xs : List ℕ) → stands_in z xs ≡ true → stands_in z (x ∷ xs) ≡ true
unfolding stands_in
stands-later z x xs h = or_right (eqb z x) (stands_in z xs) h

among-sub-by : (z x : ℕ) (xs ys : List ℕ) (b : Bool) → eqb z x ≡ b → (b || stands_in z xs) ≡ true → stands_in x ys ≡ true → (stands_in z xs ≡ true → stands_in z ys ≡ true) → stands_in z ys ≡ true
among-sub-by z x xs ys true e h here ih = ap (λ (n : ℕ). stands_in n ys) (eqb-true z x e) ∙ here
among-sub-by z x xs ys false e h here ih = ih h

pub among-sub : (xs ys : List ℕ) → among xs ys ≡ true → Sub xs ys
unfolding every stands_in
among-sub [] ys h z k = never k
among-sub (x ∷ xs) ys h z k =
    among-sub-by z x xs ys (eqb z x) refl k (and_left (stands_in x ys) (every (λ y. stands_in y ys) xs) h) (among-sub xs ys (and_right (stands_in x ys) (every (λ y. stands_in y ys) xs) h) z)

pub sub-among : (xs ys : List ℕ) → Sub xs ys → among xs ys ≡ true
unfolding every
sub-among [] ys s = refl
sub-among (x ∷ xs) ys s =
    and_both (stands_in x ys) (every (λ y. stands_in y ys) xs) (s x (stands_here x xs)) (sub-among xs ys (λ z h. s z (stands-later z x xs h)))

-- ---- one number taken away
abbrev remove : ℕ → List ℕ → List ℕ
remove x [] = []
remove x (y ∷ ys) = cond (eqb x y) ys (y ∷ remove x ys)

remove-length-by : (x y : ℕ) (ys : List ℕ) (b : Bool) → (b || stands_in x ys) ≡ true → (stands_in x ys ≡ true → length ys ≡ suc (length (remove x ys))) → suc (length ys) ≡ suc (length (cond b ys (y ∷ remove x ys)))
remove-length-by x y ys true h ih = refl
remove-length-by x y ys false h ih = ap suc (ih h)

remove-length : (x : ℕ) (ys : List ℕ) → stands_in x ys ≡ true → length ys ≡ suc (length (remove x ys))
unfolding stands_in
remove-length x [] h = never h
remove-length x (y ∷ ys) h = remove-length-by x y ys (eqb x y) h (remove-length x ys)

remove-keeps-by : (z x y : ℕ) (ys : List ℕ) (a b : Bool) → eqb z y ≡ a → eqb x y ≡ b → (z ≡ x → ⊥) → (a || stands_in z ys) ≡ true → (stands_in z ys ≡ true → stands_in z (remove x ys) ≡ true) → stands_in z (cond b ys (y ∷ remove x ys)) ≡ true
unfolding stands_in
remove-keeps-by z x y ys true true e f n h ih = absurd (n (eqb-true z y e ∙ sym (eqb-true x y f)))
remove-keeps-by z x y ys true false e f n h ih = rw e
remove-keeps-by z x y ys false true e f n h ih = h
remove-keeps-by z x y ys false false e f n h ih = or_right (eqb z y) (stands_in z (remove x ys)) (ih h)

remove-keeps : (z x : ℕ) (ys : List ℕ) → (z ≡ x → ⊥) → stands_in z ys ≡ true → stands_in z (remove x ys) ≡ true
unfolding stands_in
remove-keeps z x [] n h = never h
remove-keeps z x (y ∷ ys) n h = remove-keeps-by z x y ys (eqb z y) (eqb x y) refl refl n h (remove-keeps z x ys n)

-- ---- a list without repetition
once-here : (x : ℕ) (xs : List ℕ) → each_once (x ∷ xs) ≡ true → stands_in x xs ≡ false
unfolding each_once
once-here x xs o = not-true (stands_in x xs) (and_left (not (stands_in x xs)) (each_once xs) o)

once-later : (x : ℕ) (xs : List ℕ) → each_once (x ∷ xs) ≡ true → each_once xs ≡ true
unfolding each_once
once-later x xs o = and_right (not (stands_in x xs)) (each_once xs) o

-- what stands later is another number
another : (x z : ℕ) (xs : List ℕ) → stands_in x xs ≡ false → stands_in z xs ≡ true → z ≡ x → ⊥
another x z xs a h e = never {X = ⊥} (sym a ∙ ap (λ (n : ℕ). stands_in n xs) (sym e) ∙ h)

sub-rest : (x : ℕ) (xs ys : List ℕ) → stands_in x xs ≡ false → Sub (x ∷ xs) ys → Sub xs (remove x ys)
sub-rest x xs ys a s z h = remove-keeps z x ys (another x z xs a h) (s z (stands-later z x xs h))

-- ---- counting
pub fewer : (xs ys : List ℕ) → each_once xs ≡ true → Sub xs ys → length xs ≤ length ys
fewer [] ys o s = omega arith
fewer (x ∷ xs) ys o s =
    omega (arith, fewer xs (remove x ys) (once-later x xs o) (sub-rest x xs ys (once-here x xs o) s), remove-length x ys (s x (stands_here x xs)))

pub all-met : (xs ys : List ℕ) → each_once xs ≡ true → Sub xs ys → length ys ≤ length xs → Sub ys xs
all-met [] [] o s h z k = k
all-met [] (y ∷ ys) o s h z k = absurd (omega arith)
all-met (x ∷ xs) ys o s h z k =
    tested (eqb z x) (λ e. ap (λ (n : ℕ). stands_in n (x ∷ xs)) (eqb-true z x e) ∙ stands_here x xs)
    (λ e. stands-later z x xs
    (all-met xs (remove x ys) (once-later x xs o) (sub-rest x xs ys (once-here x xs o) s) (omega (arith, remove-length x ys (s x (stands_here x xs)))) z (remove-keeps z x ys (eqb-false z x e) k)))

-- ---- the test of the code: each of those pending is listed, there are some, and as many as are listed
some_of : (xs : List ℕ) → ltb 0 (length xs) ≡ not (is_empty xs)
some_of [] = refl
some_of (x ∷ xs) = lt-ltb 0 (suc (length xs)) (omega arith)

flat : (a n b : Bool) → not (n || not (a && b)) ≡ (a && not n && b)
flat true true b = refl
flat true false true = refl
flat true false false = refl
flat false true b = refl
flat false false b = refl

module _ (pending paths : List ℕ) (o : each_once pending ≡ true) (q : each_once paths ≡ true) where
  last : (a : Bool) → among pending paths ≡ a → (a && not (is_empty pending) && eqb (length pending) (length paths)) ≡ (a && not (is_empty pending) && among paths pending)
  last false e = refl
  last true e =
      ap (λ (b : Bool). not (is_empty pending) && b)
      (by-test (eqb (length pending) (length paths)) (among paths pending)
      (λ h. let same = eqb-true (length pending) (length paths) h in sub-among paths pending (all-met pending paths o (among-sub pending paths e) (omega arith)))
      (λ h. eq-eqb (length pending) (length paths) (omega (arith, fewer pending paths o (among-sub pending paths e), fewer paths pending q (among-sub paths pending h)))))

  pub exact : (among pending paths && ltb 0 (length pending) && eqb (length pending) (length paths)) ≡ not (is_empty pending || not (among pending paths && among paths pending))
  exact =
      ap (λ (b : Bool). among pending paths && b && eqb (length pending) (length paths)) (some_of pending)
      ∙ last (among pending paths) refl
      ∙ sym (flat (among pending paths) (is_empty pending) (among paths pending))
