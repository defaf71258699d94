-- A close over dealt books: the hour's pending bids all stand on one side, so that side has the batch, and no place of the other is touched (02, order 3).
-- Assumes nothing.
use mathlib.Core.Path.{◌≡◌, refl, sym, ap, ◌∙◌}
use mathlib.Core.Bool.{Bool, true, false, cond, not, ◌&&◌, ◌||◌, beq}
use mathlib.Core.List.{List, [], ◌∷◌, map}
use mathlib.Core.Option.{Option, none, some}
use Prim.Native.Nat.{ℕ, ◌+◌, ◌≤◌}
use native.Mathlib.Omega.{arith}
use borrow.Author.Tests.{lt-ltb}
use lib.Dec.{eqb, ltb}
use lib.IntN.{ℤ, pos, ◌+ℤ◌, +ℤ_idl, +ℤ_idr}
use lib.ListN.{length, length-map}
use Rattle.amounts.specs.Lists.{sum, total}
use Rattle.distinct.specs.Numbers.{stands_in}
use Rattle.refusals.proofs.Laws.{never}
use Rattle.kinds.specs.Kinds.{quarter_hour}
use Rattle.keys.specs.declared.Key.{Key}
use Rattle.records.specs.declared.types.Record.{Record}
use Rattle.records.specs.Records.{blank, at, is_pending}
use Rattle.records.proofs.Places.{at_own}
use Rattle.batches.specs.Batches.{pending_paths, brings, batch_cents, batched}
use Rattle.batches.proofs.Mapped.{sum-map}
use Rattle.batches.proofs.Laws.{pending-is, batched-other, batched-blank, batched-stays}
use Rattle.book.specs.declared.types.Book.{Book}
use Rattle.book.specs.Places.{find}
use Rattle.book.specs.Books.{sound, totals}
use Rattle.book.specs.Step.{rebook}
use Rattle.book.proofs.Places.{count, bit, none≢some, find-passes, find-count}
use Rattle.demands.specs.Three.{top_support}
use Rattle.demands.proofs.Deal.{under, Deal, put, put-each, beq-not}

-- ---- lists of places
module _ {A : Type 0} (p q : A → Bool) where
  miss-at : (x y : A) (xs : List A) (b d : Bool) → q y ≡ d → cond b (some y) (find p xs) ≡ some x → cond d (some y) (find q xs) ≡ none
      → (find p xs ≡ some x → find q xs ≡ none → q x ≡ false) → q x ≡ false
  miss-at x y xs b true e h k ih = none≢some y (sym k)
  miss-at x y xs true false e h k ih = let w : x ≡ y = cc in cc
  miss-at x y xs false false e h k ih = ih h k

  -- what one test finds, a test that finds nothing does not pass
  find-miss : (x : A) (xs : List A) → find p xs ≡ some x → find q xs ≡ none → q x ≡ false
  unfolding find
  find-miss x [] h k = none≢some x h
  find-miss x (y ∷ xs) h k = miss-at x y xs (p y) (q y) refl h k (find-miss x xs)

  count-below : ((x : A) → bit (p x) ≤ bit (q x)) → (xs : List A) → count p xs ≤ count q xs
  unfolding sum
  count-below h [] = omega arith
  count-below h (x ∷ xs) = omega (arith, h x, count-below h xs)

module _ {A : Type 0} (g : A → A) where
  module _ (p : A → Bool) (untouched : (x : A) → p x ≡ false → g x ≡ x) where
    same_at : (x : A) (xs : List A) (b : Bool) → p x ≡ b → cond b (some x) (find p xs) ≡ none → (find p xs ≡ none → map g xs ≡ xs) → g x ∷ map g xs ≡ x ∷ xs
    same_at x xs true e n ih = none≢some x (sym n)
    same_at x xs false e n ih = ap (λ z. z ∷ map g xs) (untouched x e) ∙ ap (λ z. x ∷ z) (ih n)

    -- where nothing is touched, nothing changes
    same_map : (xs : List A) → find p xs ≡ none → map g xs ≡ xs
    unfolding find
    same_map [] n = refl
    same_map (x ∷ xs) n = same_at x xs (p x) refl n (same_map xs)

  abbrev over : Option A → Option A
  over none = none
  over (some x) = some (g x)

  over-found : (b : Bool) (x : A) (o : Option A) → cond b (some (g x)) (over o) ≡ over (cond b (some x) o)
  over-found true x o = refl
  over-found false x o = refl

  over-cond : (b : Bool) (o : Option A) → over (cond b o none) ≡ cond b (over o) none
  over-cond true o = refl
  over-cond false o = refl

  over-some : (o : Option A) (x : A) → over o ≡ some x → (y : A) × (o ≡ some y)
  over-some none x q = none≢some x q
  over-some (some y) x q = (y, refl)

  -- a change that no test notices is made of what is found
  find-map : (q : A → Bool) → ((x : A) → q (g x) ≡ q x) → (xs : List A) → find q (map g xs) ≡ over (find q xs)
  unfolding find
  find-map q h [] = refl
  find-map q h (x ∷ xs) =
      ap (λ b. cond b (some (g x)) (find q (map g xs))) (h x) ∙ ap (λ o. cond (q x) (some (g x)) o) (find-map q h xs) ∙ over-found (q x) x (find q xs)

-- ---- the pending paths by count, so that the invariant's marks carry them from one book to another
abbrev is_at : ℕ → ℕ → Record → Bool
is_at hour path r = is_pending hour r && eqb path r.key.path

stands_here : (t : Bool) (s : Bool) (n : ℕ) → s ≡ ltb 0 n → (t || s) ≡ ltb 0 (bit t + n)
stands_here true s n h = sym (lt-ltb 0 (1 + n) (omega arith))
stands_here false s n h = let same : n ≡ bit false + n = omega arith in h ∙ ap (ltb 0) same

stands_by : (hour path : ℕ) (r : Record) (rs : List Record) (b : Bool) → stands_in path (pending_paths hour rs) ≡ ltb 0 (count (is_at hour path) rs)
    → stands_in path (cond b (r.key.path ∷ pending_paths hour rs) (pending_paths hour rs)) ≡ ltb 0 (bit (b && eqb path r.key.path) + count (is_at hour path) rs)
unfolding stands_in
stands_by hour path r rs true ih = stands_here (eqb path r.key.path) (stands_in path (pending_paths hour rs)) (count (is_at hour path) rs) ih
stands_by hour path r rs false ih = stands_here false (stands_in path (pending_paths hour rs)) (count (is_at hour path) rs) ih

stands-count : (hour path : ℕ) (rs : List Record) → stands_in path (pending_paths hour rs) ≡ ltb 0 (count (is_at hour path) rs)
unfolding stands_in pending_paths sum
stands-count hour path [] = refl
stands-count hour path (r ∷ rs) = stands_by hour path r rs (is_pending hour r) (stands-count hour path rs)

fewer-both : (a b : Bool) → bit (a && b) ≤ bit a
fewer-both true true = omega arith
fewer-both true false = omega arith
fewer-both false b = omega arith

-- ---- a book with nothing pending at the hour has no batch
module _ (hour : ℕ) (paths : List ℕ) (prices : List ℤ) where
  nothing-by : (r : Record) (rs : List Record) (b : Bool) → cond b (some r) (find (is_pending hour) rs) ≡ none → (z w : ℤ) → (find (is_pending hour) rs ≡ none → w ≡ pos 0)
      → cond b z (pos 0) +ℤ w ≡ pos 0
  nothing-by r rs true n z w ih = none≢some r (sym n)
  nothing-by r rs false n z w ih = +ℤ_idl w ∙ ih n

  nothing-brought : (rs : List Record) → find (is_pending hour) rs ≡ none → total (brings hour paths prices) rs ≡ pos 0
  unfolding sum find
  nothing-brought [] n = refl
  nothing-brought (r ∷ rs) n = nothing-by r rs (is_pending hour r) n _ (total (brings hour paths prices) rs) (nothing-brought rs)

module _ (o : Key → Bool) (H : ℕ → Bool) (W : Book) (D : Bool → Book) (I : Deal o H W D) (hour : ℕ) (s : Bool) (e : s ≡ H hour) where
  abbrev far : List Record
  far = (D (not s)).records

  -- ---- the other side has nothing pending at that hour
  clash : (x y : Record) (b : Bool) → is_pending hour x ≡ true → beq (not s) (o x.key) ≡ b → cond b (under x.key W) none ≡ some y → ⊥
  clash x y true p c g =
      let is = pending-is hour x p in
      let own : o x.key ≡ s = I.hours x.key y g is.kind ∙ ap H is.hour ∙ sym e in
      never {X = ⊥} (sym (beq-not s) ∙ ap (beq (not s)) (sym own) ∙ c)
  clash x y false p c g = none≢some y g

  other-by : (x : Record) → find (is_pending hour) far ≡ some x → (m : Option Record) → under x.key (D (not s)) ≡ m → ⊥
  other-by x f none g =
      let p = find-passes (is_pending hour) x far f in
      never {X = ⊥} (sym (find-miss (is_pending hour) (at x.key) x far f g) ∙ at_own x.key x refl (pending-is hour x p).used)
  other-by x f (some y) g =
      clash x y (beq (not s) (o x.key)) (find-passes (is_pending hour) x far f) refl (sym (I.finds (not s) x.key) ∙ g)

  none-by : (m : Option Record) → find (is_pending hour) far ≡ m → m ≡ none
  none-by none f = refl
  none-by (some x) f = absurd (other-by x f (under x.key (D (not s))) refl)

  none_other : find (is_pending hour) far ≡ none
  none_other = none-by (find (is_pending hour) far) refl

  -- so the paths that are pending on this side are the whole book's
  none-at : (path : ℕ) → count (is_at hour path) far ≡ 0
  none-at path =
      omega (arith, count-below (is_at hour path) (is_pending hour) (λ r. fewer-both (is_pending hour r) (eqb path r.key.path)) far, find-count (is_pending hour) far none_other)

  blank-at : (path : ℕ) → is_at hour path blank ≡ false
  unfolding is_pending
  blank-at path = refl

  own-count : (t : Bool) (path : ℕ) → count (is_at hour path) (D (not t)).records ≡ 0 → count (is_at hour path) W.records ≡ count (is_at hour path) (D t).records
  own-count true path z = omega (arith, I.marks (is_at hour path) (blank-at path))
  own-count false path z = omega (arith, I.marks (is_at hour path) (blank-at path))

  pub same-pending : (path : ℕ) → stands_in path (pending_paths hour W.records) ≡ stands_in path (pending_paths hour (D s).records)
  same-pending path =
      stands-count hour path W.records ∙ ap (ltb 0) (own-count s path (none-at path)) ∙ sym (stands-count hour path (D s).records)

  module _ (paths : List ℕ) (prices : List ℤ) where
    -- ---- and its batch is the whole book's
    blank-brings : brings hour paths prices blank ≡ pos 0
    unfolding is_pending
    blank-brings = refl

    same_by : (t : Bool) → total (brings hour paths prices) (D (not t)).records ≡ pos 0 → total (brings hour paths prices) W.records ≡ total (brings hour paths prices) (D t).records
    same_by true z =
        I.sums (brings hour paths prices) blank-brings ∙ ap (λ (y : ℤ). y +ℤ total (brings hour paths prices) (D true).records) z
        ∙ +ℤ_idl (total (brings hour paths prices) (D true).records)
    same_by false z =
        I.sums (brings hour paths prices) blank-brings ∙ ap (λ (y : ℤ). total (brings hour paths prices) (D false).records +ℤ y) z
        ∙ +ℤ_idr (total (brings hour paths prices) (D false).records)

    pub same-cents : batch_cents hour paths prices W.records ≡ batch_cents hour paths prices (D s).records
    unfolding batch_cents
    same-cents = same_by s (nothing-brought hour paths prices far none_other)

    -- ---- the three books afterwards, where the batch stays
    abbrev moved : Record → Record
    moved = batched false hour paths prices

    abbrev shut : Book → Book
    shut b = rebook b b.account (map moved b.records)

    abbrev after : Bool → Book
    after = put D s (shut (D s))

    -- a close of this side's book does to the places of both what one of the whole book does
    places-by : (t u : Bool) → map moved (D (not t)).records ≡ (D (not t)).records → (put D t (shut (D t)) u).records ≡ map moved (D u).records
    places-by true true q = refl
    places-by true false q = sym q
    places-by false true q = sym q
    places-by false false q = refl

    places : (t : Bool) → (after t).records ≡ map moved (D t).records
    places t = places-by s t (same_map moved (is_pending hour) (batched-other false hour paths prices) far none_other)

    found : (k : Key) (rs : List Record) → find (at k) (map moved rs) ≡ over moved (find (at k) rs)
    found k rs = find-map moved (at k) (batched-stays hour paths prices k) rs

    finds' : (t : Bool) (k : Key) → under k (after t) ≡ cond (beq t (o k)) (under k (shut W)) none
    finds' t k =
        ap (find (at k)) (places t) ∙ found k (D t).records ∙ ap (over moved) (I.finds t k) ∙ over-cond moved (beq t (o k)) (under k W)
        ∙ ap (λ (m : Option Record). cond (beq t (o k)) m none) (sym (found k W.records))

    moved-blank : moved blank ≡ blank
    moved-blank = batched-blank false hour paths prices

    sums' : (f : Record → ℤ) → f blank ≡ pos 0 → total f (shut W).records ≡ total f (after false).records +ℤ total f (after true).records
    sums' f z =
        let side : (t : Bool) → total (λ r. f (moved r)) (D t).records ≡ total f (after t).records = λ t. sym (ap (total f) (places t) ∙ sum-map moved ◌+ℤ◌ (pos 0) f (D t).records) in
        sum-map moved ◌+ℤ◌ (pos 0) f W.records ∙ I.sums (λ r. f (moved r)) (ap f moved-blank ∙ z) ∙ (λ i. side false i +ℤ side true i)

    marks' : (p : Record → Bool) → p blank ≡ false → count p (shut W).records ≡ count p (after false).records + count p (after true).records
    marks' p z =
        let side : (t : Bool) → count (λ r. p (moved r)) (D t).records ≡ count p (after t).records = λ t. sym (ap (count p) (places t) ∙ sum-map moved ◌+◌ 0 (λ r. bit (p r)) (D t).records) in
        sum-map moved ◌+◌ 0 (λ r. bit (p r)) W.records ∙ I.marks (λ r. p (moved r)) (ap p moved-blank ∙ z) ∙ (λ i. side false i + side true i)

    hours' : (k : Key) (r : Record) → under k (shut W) ≡ some r → k.kind ≡ quarter_hour → o k ≡ H k.hour
    hours' k r q five = let y = over-some moved (under k W) r (sym (found k W.records) ∙ q) in I.hours k y.0 y.1 five

    pub closed-deal : sound (shut (D s)) ≡ true → Deal o H (shut W) after
    unfolding totals
    closed-deal sane =
        record {
          finds = finds';
          sums = sums';
          marks = marks';
          size = length-map W.records moved ∙ I.size;
          sizes = λ t. ap length (places t) ∙ length-map (D t).records moved ∙ I.sizes t;
          sane = put-each (λ b. sound b ≡ true) D s (shut (D s)) sane I.sane;
          top = put-each (λ b. (totals b).support ≡ pos top_support) D s (shut (D s)) (I.top s) I.top;
          hours = hours';
        }
