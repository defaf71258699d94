-- The table of listed paths: one path more, and what an entry says of the list.
-- Assumes nothing.
use mathlib.Core.Path.{◌≡◌, refl, sym, ap, subst, ◌∙◌}
use mathlib.Core.Bool.{Bool, true, false, not, cond, ◌&&◌, ◌||◌}
use mathlib.Core.List.{List, [], ◌∷◌, ◌++◌}
use Prim.Native.Nat.{ℕ, zero, suc, ◌+◌, ◌*◌, ◌-◌, ◌/◌, ◌%◌, ◌<◌, ◌≤◌}
use native.Mathlib.Nat.{le_refl}
use native.Mathlib.Omega.{arith}
use lib.Dec.{leb, eqb}
use lib.IntN.{ℤ, pos}
use lib.ListN.{length, get_or, set, take, drop, replicate, get_or-replicate, length-replicate, get_or-eq_default, length-set}
use lib.Seq.{get_or-set_same, get_or-set_other, drop-length, drop-cons}
use Rattle.std.proofs.Common.{add-one, length-append}
use Rattle.std.proofs.lemmas.List.{take_all, take-append-le, take-take, get_or-take, get_or-append_right}
use borrow.Author.Tests.{eqb-true, eqb-false, eq-eqb, ne_eqb, leb-true}
use Rattle.amounts.specs.Lists.{every}
use Rattle.amounts.proofs.Signed.{tested}
use Rattle.distinct.specs.Numbers.{stands_in}
use Rattle.refusals.proofs.Laws.{and_left, and_right, and_both, never}
use Rattle.kinds.specs.Kinds.{quarter_hour, by_kind, rules_of, is_path}
use Rattle.keys.proofs.Laws.{by-test}
use Rattle.closings.specs.Closings.{Quote, place_of, quote_at, each_once}
use Rattle.closings.specs.Listing.{slot, Lists}

-- ---- lists

-- what a test says of each element, and what is so of d, is so at any place
pub every-at : {A : Type 0} (P : A → Type 0) (p : A → Bool) (d : A) → P d → ((x : A) → p x ≡ true → P x) → (l : List A) → every p l ≡ true → (k : ℕ) → P (get_or l k d)
unfolding every
every-at P p d h f [] e k = h
every-at P p d h f (x ∷ xs) e zero = f x (and_left (p x) (every p xs) e)
every-at P p d h f (x ∷ xs) e (suc k) = every-at P p d h f xs (and_right (p x) (every p xs) e) k

pub path-range : (path : ℕ) → is_path (rules_of quarter_hour) path ≡ true → (1 ≤ path) × (path ≤ 999)
unfolding rules_of by_kind
path-range path h = (leb-true 1 path (and_left (leb 1 path) (leb path 999) h), leb-true path 999 (and_right (leb 1 path) (leb path 999) h))

-- past the end a list reads 0
pub paths-low : (paths : List ℕ) → every (is_path (rules_of quarter_hour)) paths ≡ true → (k : ℕ) → get_or paths k 0 ≤ 999
paths-low paths h k = every-at (λ (n : ℕ). n ≤ 999) (is_path (rules_of quarter_hour)) 0 (omega arith) (λ n e. (path-range n e).1) paths h k

-- what is at a place of the list
paths-low-at : (paths : List ℕ) → every (is_path (rules_of quarter_hour)) paths ≡ true → (k path : ℕ) → k < length paths → path ≡ get_or paths k path → path ≤ 999
unfolding every
paths-low-at [] h k path lt e = absurd (omega arith)
paths-low-at (p ∷ ps) h zero path lt e = rw e (path-range p (and_left (is_path (rules_of quarter_hour) p) (every (is_path (rules_of quarter_hour)) ps) h)).1
paths-low-at (p ∷ ps) h (suc k) path lt e = paths-low-at ps (and_right (is_path (rules_of quarter_hour) p) (every (is_path (rules_of quarter_hour)) ps) h) k path (omega arith) e

-- ---- where a path stands
place-by : (path p : ℕ) (ps : List ℕ) (b : Bool) → (b || stands_in path ps) ≡ true → (stands_in path ps ≡ true → place_of path ps < length ps) → cond b 0 (place_of path ps + 1) < suc (length ps)
place-by path p ps true h ih = omega arith
place-by path p ps false h ih = omega (arith, ih h)

pub stands-place : (path : ℕ) (l : List ℕ) → stands_in path l ≡ true → place_of path l < length l
unfolding stands_in place_of
stands-place path [] h = never h
stands-place path (p ∷ ps) h = place-by path p ps (eqb path p) h (stands-place path ps)

none-by : (path p : ℕ) (ps : List ℕ) (b : Bool) → (b || stands_in path ps) ≡ false → (stands_in path ps ≡ false → place_of path ps ≡ length ps) → cond b 0 (place_of path ps + 1) ≡ suc (length ps)
none-by path p ps true h ih = never (sym h)
none-by path p ps false h ih = omega (arith, ih h)

pub stands-none : (path : ℕ) (l : List ℕ) → stands_in path l ≡ false → place_of path l ≡ length l
unfolding stands_in place_of
stands-none path [] h = refl
stands-none path (p ∷ ps) h = none-by path p ps (eqb path p) h (stands-none path ps)

-- ---- an entry of the table
slot-none-by : (b : Bool) (n : ℕ) → eqb (cond b (n + 1) 0) 0 ≡ not b
slot-none-by true n = ne_eqb (n + 1) 0 (λ e. omega arith)
slot-none-by false n = refl

-- it is 0 exactly where the path is not listed
pub slot-none : (n path : ℕ) (l : List ℕ) → eqb (slot n path l) 0 ≡ not (stands_in path l)
slot-none n path l = slot-none-by (stands_in path l) (n + place_of path l)

slot-first-by : (n path p : ℕ) (l : List ℕ) (b : Bool) → b ≡ true → cond (b || stands_in path l) (n + cond b 0 (place_of path l + 1) + 1) 0 ≡ n + 1
slot-first-by n path p l true e = omega arith
slot-first-by n path p l false e = never e

slot-first : (n path p : ℕ) (l : List ℕ) → path ≡ p → slot n path (p ∷ l) ≡ n + 1
unfolding stands_in place_of
slot-first n path p l e = slot-first-by n path p l (eqb path p) (eq-eqb path p e)

slot-next-by : (n path p : ℕ) (l : List ℕ) (b s : Bool) → b ≡ false → stands_in path l ≡ s → cond (b || s) (n + cond b 0 (place_of path l + 1) + 1) 0 ≡ cond s (n + 1 + place_of path l + 1) 0
slot-next-by n path p l true s e f = never (sym e)
slot-next-by n path p l false true e f = omega arith
slot-next-by n path p l false false e f = refl

slot_next : (n path p : ℕ) (l : List ℕ) → (path ≡ p → ⊥) → slot n path (p ∷ l) ≡ slot (n + 1) path l
unfolding stands_in place_of
slot_next n path p l e = slot-next-by n path p l (eqb path p) (stands_in path l) (ne_eqb path p e) refl

-- ---- the walk from the end: the places from i on are in the table
pub record Entered (paths table : List ℕ) (i : ℕ) : Type 0 where
  pub size : length table ≡ 1024
  pub entry : (path : ℕ) → path < 1024 → get_or table path 0 ≡ slot i path (drop i paths)

-- what `rev` has left is the front of the list
pub record Front {A : Type 0} (xs left : List A) : Type 0 where
  pub few : length left ≤ length xs
  pub same : left ≡ take (length left) xs

pub front_all : {A : Type 0} (xs : List A) → Front xs xs
front_all xs = record { few = le_refl (length xs); same = sym (take_all (length xs) xs (le_refl (length xs))) }

-- one step back: x is what stands after those that are then left
pub record Back {A : Type 0} (xs left rest : List A) (x : A) : Type 0 where
  pub long : length left ≡ length rest + 1
  pub front : Front xs rest
  pub is : x ≡ get_or xs (length rest) x

pub back : {A : Type 0} (xs left rest : List A) (x : A) → Front xs left → left ≡ rest ++ (x ∷ []) → Back xs left rest x
back xs left rest x l e =
    let n = length rest in
    let one : length left ≡ n + 1 = ap length e ∙ length-append rest (x ∷ []) in
    let zeroth : n - n ≡ 0 = omega arith in
    let same : rest ++ (x ∷ []) ≡ take (n + 1) xs = sym e ∙ l.same ∙ ap (λ k. take k xs) one in
    record {
      long = one;
      front = record { few = omega (arith, l.few); same = sym (take_all n rest (le_refl n)) ∙ sym (take-append-le n rest (x ∷ []) (le_refl n)) ∙ ap (take n) same ∙ take-take n (n + 1) xs (omega arith) };
      is = sym (get_or-append_right rest (x ∷ []) n n x refl (le_refl n) ∙ ap (λ k. get_or (x ∷ []) k x) zeroth) ∙ ap (λ l. get_or l n x) same ∙ get_or-take (n + 1) xs n x (omega arith);
    }

module _ (paths table : List ℕ) (n here : ℕ) (within : n < length paths) (is : here ≡ get_or paths n here) (e : Entered paths table (n + 1)) where
  abbrev rest : List ℕ
  rest = drop (n + 1) paths

  stands : drop n paths ≡ here ∷ rest
  stands = drop-cons paths n here within ∙ sym (λ j. is j ∷ drop (add-one n j) paths)

  pub enter : (i : ℕ) → i ≡ n → here < 1024 → length (set table here (i + 1)) ≡ 1024 → Entered paths (set table here (i + 1)) n
  enter i at low size =
      record {
        size = size;
        entry = λ path lt. tested (eqb path here)
            (λ q. let p : path ≡ here = eqb-true path here q in
            ap (λ (k : ℕ). get_or (set table here (i + 1)) k 0) p ∙ get_or-set_same table here (i + 1) 0 (omega (arith, e.size)) ∙ ap (λ (k : ℕ). k + 1) at
            ∙ sym (slot-first n path here rest p) ∙ ap (slot n path) (sym stands))
            (λ q. let p : path ≡ here → ⊥ = eqb-false path here q in
            get_or-set_other table here path (i + 1) 0 p ∙ e.entry path lt
            ∙ sym (slot_next n path here rest p) ∙ ap (slot n path) (sym stands));
      }

  -- a path is listed again exactly where the table has it already
  pub once_more : (once : Bool) → once ≡ each_once rest → here < 1024 → (eqb (get_or table here 0) 0 && once) ≡ each_once (drop n paths)
  unfolding each_once
  once_more once o low =
      (λ j. eqb (e.entry here low j) 0 && o j) ∙ ap (λ (b : Bool). b && each_once rest) (slot-none (n + 1) here rest) ∙ ap each_once (sym stands)

-- what the walk has: of the paths but those that are left
pub record Walked (paths table : List ℕ) (seen : Bool) (left : List ℕ) : Type 0 where
  pub front : Front paths left
  pub entered : Entered paths table (length left)
  pub once : seen ≡ each_once (drop (length left) paths)

-- before the last path
pub begun : (paths : List ℕ) → Walked paths (replicate {A = ℕ} 1024 0) true paths
unfolding stands_in each_once
begun paths =
    record {
      front = front_all paths;
      entered = record {
        size = length-replicate {A = ℕ} 1024 0;
        entry = λ path lt. get_or-replicate {A = ℕ} 1024 path 0 0 lt ∙ ap (slot (length paths) path) (sym (drop-length paths));
      };
      once = ap each_once (sym (drop-length paths));
    }

module _ (paths table : List ℕ) (seen : Bool) (left rest : List ℕ) (here : ℕ) (fit : every (is_path (rules_of quarter_hour)) paths ≡ true) (w : Walked paths table seen left) (e : left ≡ rest ++ (here ∷ [])) where
  abbrev step : Back paths left rest here
  step = back paths left rest here w.front e

  pub here_low : here < 1024
  here_low = let low = paths-low-at paths fit (length rest) here (omega (arith, step.long, w.front.few)) step.is in omega arith

  pub walked_more : (i : ℕ) → i ≡ length rest → Walked paths (set table here (i + 1)) (eqb (get_or table here 0) 0 && seen) rest
  walked_more i at =
      let s = step in
      let entered = subst (Entered paths table) s.long w.entered in
      record {
        front = s.front;
        entered = enter paths table (length rest) here (omega (arith, s.long, w.front.few)) s.is entered i at here_low (length-set table here (i + 1) ∙ w.entered.size);
        once = once_more paths table (length rest) here (omega (arith, s.long, w.front.few)) s.is entered seen (w.once ∙ ap (λ k. each_once (drop k paths)) s.long) here_low;
      }

pub entered_all : (paths table : List ℕ) → Entered paths table 0 → Lists paths table
entered_all paths table e = record { size = e.size; entry = e.entry }

-- ---- what an entry says
module _ (paths table : List ℕ) (l : Lists paths table) (path : ℕ) (low : path < 1024) where
  -- it is above 0 exactly where the path is listed
  pub entry_listed : not (eqb (get_or table path 0) 0) ≡ stands_in path paths
  entry_listed = ap (λ (n : ℕ). not (eqb n 0)) (l.entry path low) ∙ ap not (slot-none 0 path paths) ∙ twice (stands_in path paths)
    where
      twice : (b : Bool) → not (not b) ≡ b
      twice true = refl
      twice false = refl

  place_is : (b : Bool) → stands_in path paths ≡ b → (get_or table path 0 ≡ 0 → ⊥) → get_or table path 0 - 1 ≡ place_of path paths
  place_is true e n =
      let is : get_or table path 0 ≡ place_of path paths + 1 = l.entry path low ∙ ap (λ (b : Bool). cond b (0 + place_of path paths + 1) 0) e ∙ omega arith in
      omega arith
  place_is false e n = absurd (n (l.entry path low ∙ ap (λ (b : Bool). cond b (0 + place_of path paths + 1) 0) e))

  -- and is then one more than its place
  pub entry-some : (get_or table path 0 ≡ 0 → ⊥) → get_or table path 0 - 1 ≡ place_of path paths
  entry-some n = place_is (stands_in path paths) refl n

-- ---- the prices of a path that is not listed
abbrev pub no_quote : Quote
no_quote = record { first = pos 0; second = pos 0; third = pos 0; fourth = pos 0 }

module _ (prices : List ℤ) (place : ℕ) (out : length prices ≤ place * 4) where
  past : (k : ℕ) → get_or prices (place * 4 + k) (pos 0) ≡ pos 0
  past k = get_or-eq_default prices (pos 0) (omega arith)

  at-end : get_or prices (place * 4) (pos 0) ≡ pos 0
  at-end = get_or-eq_default prices (pos 0) out

  pub quote-past : quote_at place prices ≡ no_quote
  quote-past = λ i. record { first = at-end i; second = past 1 i; third = past 2 i; fourth = past 3 i }

pub quote-unlisted : (path : ℕ) (paths : List ℕ) (prices : List ℤ) → length prices ≡ length paths * 4 → stands_in path paths ≡ false → quote_at (place_of path paths) prices ≡ no_quote
quote-unlisted path paths prices four e = let out = stands-none path paths e in quote-past prices (place_of path paths) (omega arith)

-- ---- four to a path, by quotient and rest
four-yes : (n m : ℕ) → (eqb (n / 4) m && eqb (n % 4) 0) ≡ true → eqb n (m * 4) ≡ true
four-yes n m h =
    let q = eqb-true (n / 4) m (and_left (eqb (n / 4) m) (eqb (n % 4) 0) h) in
    let r = eqb-true (n % 4) 0 (and_right (eqb (n / 4) m) (eqb (n % 4) 0) h) in
    eq-eqb n (m * 4) (omega arith)

four-back : (n m : ℕ) → eqb n (m * 4) ≡ true → (eqb (n / 4) m && eqb (n % 4) 0) ≡ true
four-back n m h =
    let e = eqb-true n (m * 4) h in
    and_both (eqb (n / 4) m) (eqb (n % 4) 0) (eq-eqb (n / 4) m (omega arith)) (eq-eqb (n % 4) 0 (omega arith))

pub four-each : (n m : ℕ) → (eqb (n / 4) m && eqb (n % 4) 0) ≡ eqb n (m * 4)
four-each n m = by-test (eqb (n / 4) m && eqb (n % 4) 0) (eqb n (m * 4)) (four-yes n m) (four-back n m)
