-- The laws of `find`, `swap` and `sum`: what is found, what stands there afterwards, and how a sum moves.
-- Assumes nothing.
use mathlib.Core.Path.{◌≡◌, refl, sym, ap, ◌∙◌}
use mathlib.Core.Bool.{Bool, true, false, cond, ◌&&◌}
use mathlib.Core.List.{List, [], ◌∷◌}
use mathlib.Core.Option.{none, some}
use Prim.Native.Nat.{ℕ, suc, ◌+◌}
use native.Mathlib.Nat.{add_assoc, add_comm}
use native.Mathlib.Omega.{arith}
use lib.IntN.{ℤ, pos, ◌+ℤ◌, +ℤ_assoc, +ℤ_comm}
use lib.ListN.{length}
use Rattle.amounts.specs.Lists.{sum, total, every}
use Rattle.refusals.proofs.Laws.{and_left, and_right, and_both}
use Rattle.book.specs.Places.{find, swap}

abbrev pub bit : Bool → ℕ
bit true = 1
bit false = 0

-- how many pass the test
abbrev pub count : {A : Type 0} → (A → Bool) → List A → ℕ
count p xs = sum ◌+◌ 0 (λ x. bit (p x)) xs

pub none≢some : {A : Type 0} {X : Type 0} (a : A) → none ≡ some a → X
none≢some a e = let z : ◌≡◌ {A = ℕ} 0 1 = cc in absurd (omega arith)

module _ {M : Type 0} (◌⊕◌ : M → M → M) (e : M) (assoc : (a b c : M) → ◌⊕◌ (◌⊕◌ a b) c ≡ ◌⊕◌ a (◌⊕◌ b c)) (comm : (a b : M) → ◌⊕◌ a b ≡ ◌⊕◌ b a) where
  turn : (a s b : M) → ◌⊕◌ (◌⊕◌ a s) b ≡ ◌⊕◌ (◌⊕◌ b s) a
  turn a s b = assoc a s b ∙ comm a (◌⊕◌ s b) ∙ ap (λ z. ◌⊕◌ z a) (comm s b)

  module _ {A : Type 0} (p : A → Bool) (f : A → M) (old r : A) where
    swap-sum-at : (x : A) (xs : List A) (b : Bool) → cond b (some x) (find p xs) ≡ some old
        → (find p xs ≡ some old → ◌⊕◌ (sum ◌⊕◌ e f (swap p r xs)) (f old) ≡ ◌⊕◌ (sum ◌⊕◌ e f xs) (f r))
        → ◌⊕◌ (sum ◌⊕◌ e f (cond b (r ∷ xs) (x ∷ swap p r xs))) (f old) ≡ ◌⊕◌ (◌⊕◌ (f x) (sum ◌⊕◌ e f xs)) (f r)
    unfolding sum
    swap-sum-at x xs true h ih =
        let q : old ≡ x = cc in
        rw q (turn (f r) (sum ◌⊕◌ e f xs) (f x))
    swap-sum-at x xs false h ih =
        assoc (f x) (sum ◌⊕◌ e f (swap p r xs)) (f old) ∙ ap (λ z. ◌⊕◌ (f x) z) (ih h) ∙ sym (assoc (f x) (sum ◌⊕◌ e f xs) (f r))

    -- overwriting the place that was found moves the sum by what stood there and what stands there now
    pub swap-sum : (xs : List A) → find p xs ≡ some old
        → ◌⊕◌ (sum ◌⊕◌ e f (swap p r xs)) (f old) ≡ ◌⊕◌ (sum ◌⊕◌ e f xs) (f r)
    unfolding find swap sum
    swap-sum [] h = none≢some old h
    swap-sum (x ∷ xs) h = swap-sum-at x xs (p x) h (swap-sum xs)

module _ {A : Type 0} where
  pub swap-total : (p : A → Bool) (f : A → ℤ) (old r : A) (xs : List A) → find p xs ≡ some old
      → total f (swap p r xs) +ℤ f old ≡ total f xs +ℤ f r
  swap-total p f old r xs h = swap-sum ◌+ℤ◌ (pos 0) +ℤ_assoc +ℤ_comm p f old r xs h

  pub swap-count : (p q : A → Bool) (old r : A) (xs : List A) → find p xs ≡ some old
      → count q (swap p r xs) + bit (q old) ≡ count q xs + bit (q r)
  swap-count p q old r xs h = swap-sum ◌+◌ 0 add_assoc add_comm p (λ x. bit (q x)) old r xs h

  -- ---- what is found

  find-passes-at : (p : A → Bool) (x y : A) (xs : List A) (b : Bool) → p x ≡ b → cond b (some x) (find p xs) ≡ some y
      → (find p xs ≡ some y → p y ≡ true) → p y ≡ true
  find-passes-at p x y xs true e h ih = let q : y ≡ x = cc in cc
  find-passes-at p x y xs false e h ih = ih h

  pub find-passes : (p : A → Bool) (y : A) (xs : List A) → find p xs ≡ some y → p y ≡ true
  unfolding find
  find-passes p y [] h = none≢some y h
  find-passes p y (x ∷ xs) h = find-passes-at p x y xs (p x) refl h (find-passes p y xs)

  find-count-at : (p : A → Bool) (x : A) (xs : List A) (b : Bool) → cond b (some x) (find p xs) ≡ none
      → (find p xs ≡ none → count p xs ≡ 0) → bit b + count p xs ≡ 0
  find-count-at p x xs true h ih = none≢some x (sym h)
  find-count-at p x xs false h ih = omega (arith, ih h)

  -- nothing is found exactly where no place passes
  pub find-count : (p : A → Bool) (xs : List A) → find p xs ≡ none → count p xs ≡ 0
  unfolding find sum
  find-count p [] h = refl
  find-count p (x ∷ xs) h = find-count-at p x xs (p x) h (find-count p xs)

  count-find-at : (p : A → Bool) (x : A) (xs : List A) (b : Bool) → bit b + count p xs ≡ 0
      → (count p xs ≡ 0 → find p xs ≡ none) → cond b (some x) (find p xs) ≡ none
  count-find-at p x xs true h ih = absurd (omega arith)
  count-find-at p x xs false h ih = ih (omega arith)

  pub count-find : (p : A → Bool) (xs : List A) → count p xs ≡ 0 → find p xs ≡ none
  unfolding find sum
  count-find p [] h = refl
  count-find p (x ∷ xs) h = count-find-at p x xs (p x) h (count-find p xs)

  -- ---- what is found afterwards

  module _ (p q : A → Bool) (r : A) where
    find-other-at : (x : A) (xs : List A) (b : Bool) → p x ≡ b → (p x ≡ true → q x ≡ false) → q r ≡ false
        → find q (swap p r xs) ≡ find q xs → find q (cond b (r ∷ xs) (x ∷ swap p r xs)) ≡ cond (q x) (some x) (find q xs)
    unfolding find
    find-other-at x xs true e apart hr ih = let hx : q x ≡ false = apart e in rw hr (rw hx refl)
    find-other-at x xs false e apart hr ih = ap (λ o. cond (q x) (some x) o) ih

    pub find-other : (xs : List A) → ((x : A) → p x ≡ true → q x ≡ false) → q r ≡ false → find q (swap p r xs) ≡ find q xs
    unfolding find swap
    find-other [] apart hr = refl
    find-other (x ∷ xs) apart hr = find-other-at x xs (p x) refl (apart x) hr (find-other xs apart hr)

    find-new-at : (x old : A) (xs : List A) (b d : Bool) → q x ≡ d → cond b (some x) (find p xs) ≡ some old → cond d (some x) (find q xs) ≡ none → q r ≡ true
        → (find p xs ≡ some old → find q xs ≡ none → find q (swap p r xs) ≡ some r) → find q (cond b (r ∷ xs) (x ∷ swap p r xs)) ≡ some r
    unfolding find
    find-new-at x old xs b true e h k hr ih = none≢some x (sym k)
    find-new-at x old xs true false e h k hr ih = rw hr refl
    find-new-at x old xs false false e h k hr ih = rw e (ih h k)

    pub find-new : (old : A) (xs : List A) → find p xs ≡ some old → find q xs ≡ none → q r ≡ true → find q (swap p r xs) ≡ some r
    unfolding find swap
    find-new old [] h k hr = none≢some old h
    find-new old (x ∷ xs) h k hr = find-new-at x old xs (p x) (q x) refl h k hr (λ a b. find-new old xs a b hr)

  module _ (p : A → Bool) (r : A) where
    find-same-at : (x old : A) (xs : List A) (b : Bool) → p x ≡ b → cond b (some x) (find p xs) ≡ some old → p r ≡ true
        → (find p xs ≡ some old → find p (swap p r xs) ≡ some r) → find p (cond b (r ∷ xs) (x ∷ swap p r xs)) ≡ some r
    unfolding find
    find-same-at x old xs true e h hr ih = rw hr refl
    find-same-at x old xs false e h hr ih = rw e (ih h)

    pub find-same : (old : A) (xs : List A) → find p xs ≡ some old → p r ≡ true → find p (swap p r xs) ≡ some r
    unfolding find swap
    find-same old [] h hr = none≢some old h
    find-same old (x ∷ xs) h hr = find-same-at x old xs (p x) refl h hr (λ a. find-same old xs a hr)

  swap-length-at : (p : A → Bool) (r x : A) (xs : List A) (b : Bool) → length (swap p r xs) ≡ length xs → length (cond b (r ∷ xs) (x ∷ swap p r xs)) ≡ suc (length xs)
  swap-length-at p r x xs true ih = refl
  swap-length-at p r x xs false ih = ap suc ih

  pub swap-length : (p : A → Bool) (r : A) (xs : List A) → length (swap p r xs) ≡ length xs
  unfolding swap
  swap-length p r [] = refl
  swap-length p r (x ∷ xs) = swap-length-at p r x xs (p x) (swap-length p r xs)

  -- ---- every place

  every-swap-at : (p q : A → Bool) (r x : A) (xs : List A) (b : Bool) → (q x && every q xs) ≡ true → q r ≡ true
      → every q (swap p r xs) ≡ true → every q (cond b (r ∷ xs) (x ∷ swap p r xs)) ≡ true
  unfolding every
  every-swap-at p q r x xs true h hr ih = and_both (q r) (every q xs) hr (and_right (q x) (every q xs) h)
  every-swap-at p q r x xs false h hr ih = and_both (q x) (every q (swap p r xs)) (and_left (q x) (every q xs) h) ih

  pub every-swap : (p q : A → Bool) (r : A) (xs : List A) → every q xs ≡ true → q r ≡ true → every q (swap p r xs) ≡ true
  unfolding every swap
  every-swap p q r [] h hr = refl
  every-swap p q r (x ∷ xs) h hr = every-swap-at p q r x xs (p x) h hr (every-swap p q r xs (and_right (q x) (every q xs) h) hr)

  every-find-at : (p q : A → Bool) (x y : A) (xs : List A) (b : Bool) → q x ≡ true → cond b (some x) (find p xs) ≡ some y → (find p xs ≡ some y → q y ≡ true) → q y ≡ true
  every-find-at p q x y xs true hx h ih = let e : x ≡ y = cc in cc
  every-find-at p q x y xs false hx h ih = ih h

  pub every-find : (p q : A → Bool) (y : A) (xs : List A) → every q xs ≡ true → find p xs ≡ some y → q y ≡ true
  unfolding every find
  every-find p q y [] h k = none≢some y k
  every-find p q y (x ∷ xs) h k = every-find-at p q x y xs (p x) (and_left (q x) (every q xs) h) k (every-find p q y xs (and_right (q x) (every q xs) h))
