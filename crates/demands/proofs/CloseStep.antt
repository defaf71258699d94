-- One close of a dealt run, its batch kept: the side that has the hour takes it too, answers the same sum, and the books stay dealt (02, order 3).
-- Assumes nothing.
use mathlib.Core.Path.{◌≡◌, refl, sym, ap, ◌∙◌, subst, subst₂, fun_ext}
use mathlib.Core.Bool.{Bool, true, false, cond, not, ◌&&◌, ◌||◌}
use mathlib.Core.List.{List, [], ◌∷◌, map}
use Prim.Native.Nat.{ℕ}
use lib.Dec.{eqb}
use lib.IntN.{ℤ}
use borrow.Author.Tests.{eqb-true, eq-eqb}
use Rattle.amounts.specs.Lists.{every}
use Rattle.distinct.specs.Numbers.{stands_in}
use Rattle.refusals.specs.Refusals.{None}
use Rattle.refusals.specs.declared.Answer.{Answer}
use Rattle.refusals.specs.declared.Answer.TheVariants.{Accepted, Removed}
use Rattle.refusals.specs.Answers.{reply}
use Rattle.refusals.proofs.Laws.{never, and_left, and_right, and_both}
use Rattle.keys.specs.declared.Key.{Key}
use Rattle.keys.proofs.Laws.{by-test}
use Rattle.records.specs.declared.types.Record.{Record}
use Rattle.batches.specs.Batches.{pending_paths, among, is_empty, batch_rows, unmatched, batch_cents, batched}
use Rattle.messages.specs.declared.types.Message.{Message}
use Rattle.messages.specs.declared.types.Message.TheVariants.{Close}
use Rattle.messages.specs.declared.types.Closing.{Closing}
use Rattle.messages.specs.declared.types.Deed.TheVariants.{CloseHour}
use Rattle.book.specs.declared.types.Book.{Book}
use Rattle.book.specs.Books.{sound, held, owed}
use Rattle.book.specs.Step.{deed_of, rebook, too_much, done, step}
use Rattle.book.proofs.Kept.{done-sound}
use Rattle.demands.specs.Runs.{sent_to}
use Rattle.demands.specs.Three.{Dealt, owner}
use Rattle.demands.proofs.Accepted.{taken, fitting}
use Rattle.demands.proofs.Closures.{answer-is, removed-is}
use Rattle.demands.proofs.Top.{kept_top}
use Rattle.demands.proofs.Deal.{Deal, put, takes, accepted-unremoved, Went}
use Rattle.demands.proofs.Closed.{same-pending, same-cents, closed-deal}

-- ---- row 11 sees which paths are pending, and not in which order
stands-first : (x : ℕ) (xs : List ℕ) → stands_in x (x ∷ xs) ≡ true
unfolding stands_in
stands-first x xs = ap (λ (b : Bool). b || stands_in x xs) (eq-eqb x x refl)

module _ (xs ys : List ℕ) (same : (z : ℕ) → stands_in z xs ≡ stands_in z ys) where
  among-from : (paths : List ℕ) → among paths xs ≡ among paths ys
  among-from paths = ap (λ (f : ℕ → Bool). every f paths) (fun_ext same)

-- each of the first stands among the second, by what stands in either
module _ (ys : List ℕ) where
  listed_by : (x z : ℕ) (xs : List ℕ) (b : Bool) → eqb z x ≡ b → (b || stands_in z xs) ≡ true → stands_in x ys ≡ true → (stands_in z xs ≡ true → stands_in z ys ≡ true) → stands_in z ys ≡ true
  listed_by x z xs true e h here later = ap (λ (n : ℕ). stands_in n ys) (eqb-true z x e) ∙ here
  listed_by x z xs false e h here later = later h

  listed : (xs : List ℕ) → among xs ys ≡ true → (z : ℕ) → stands_in z xs ≡ true → stands_in z ys ≡ true
  unfolding every stands_in
  listed [] a z h = never h
  listed (x ∷ xs) a z h =
      listed_by x z xs (eqb z x) refl h (and_left (stands_in x ys) (among xs ys) a) (listed xs (and_right (stands_in x ys) (among xs ys) a) z)

  later-listed : (x : ℕ) (xs : List ℕ) → ((z : ℕ) → stands_in z (x ∷ xs) ≡ true → stands_in z ys ≡ true) → (z : ℕ) → stands_in z xs ≡ true → stands_in z ys ≡ true
  unfolding stands_in
  later-listed x xs h z e = h z (either (eqb z x) (stands_in z xs) e)
    where
      either : (a b : Bool) → b ≡ true → (a || b) ≡ true
      either true b e = refl
      either false b e = e

  all_listed : (xs : List ℕ) → ((z : ℕ) → stands_in z xs ≡ true → stands_in z ys ≡ true) → among xs ys ≡ true
  unfolding every
  all_listed [] h = refl
  all_listed (x ∷ xs) h = and_both (stands_in x ys) (among xs ys) (h x (stands-first x xs)) (all_listed xs (later-listed x xs h))

among-part : (xs ys paths : List ℕ) → ((z : ℕ) → stands_in z xs ≡ stands_in z ys) → among xs paths ≡ true → among ys paths ≡ true
among-part xs ys paths same a = all_listed paths ys (λ z h. listed paths xs a z (same z ∙ h))

among_same : (xs ys paths : List ℕ) → ((z : ℕ) → stands_in z xs ≡ stands_in z ys) → among xs paths ≡ among ys paths
among_same xs ys paths same =
    by-test (among xs paths) (among ys paths) (among-part xs ys paths same) (among-part ys xs paths (λ z. sym (same z)))

empty-same : (xs ys : List ℕ) → ((z : ℕ) → stands_in z xs ≡ stands_in z ys) → is_empty xs ≡ is_empty ys
unfolding stands_in
empty-same [] [] h = refl
empty-same [] (y ∷ ys) h = never (h y ∙ stands-first y ys)
empty-same (x ∷ xs) [] h = never (sym (h x) ∙ stands-first x xs)
empty-same (x ∷ xs) (y ∷ ys) h = refl

rows_same : (hour : ℕ) (paths : List ℕ) (rs qs : List Record) → ((z : ℕ) → stands_in z (pending_paths hour rs) ≡ stands_in z (pending_paths hour qs))
    → None (batch_rows hour paths rs) → None (batch_rows hour paths qs)
unfolding batch_rows unmatched None
rows_same hour paths rs qs h n =
    let xs = pending_paths hour rs in
    let ys = pending_paths hour qs in
    ((λ i. sym (empty-same xs ys h) i || not (sym (among_same xs ys paths h) i && sym (among-from xs ys h paths) i)) ∙ n.0, tt)

-- ---- a close that is accepted and removes nothing
module _ (b : Book) (c : Closing) (ms : List ℕ) (ps : List ℤ) (ok : (reply (step b (Close c) ms ps).answer).number ≡ 0) (few : too_much b c.hour ms ps ≡ false) where
  kept-is : (step b (Close c) ms ps).answer ≡ Accepted (batch_cents c.hour ms ps b.records) (held (step b (Close c) ms ps).book) (owed (step b (Close c) ms ps).book)
  kept-is =
      let next = (step b (Close c) ms ps).book in
      answer-is b c ms ps ok ∙ ap (λ (t : Bool). cond t (Removed (held next) (owed next)) (Accepted (batch_cents c.hour ms ps b.records) (held next) (owed next))) few

  next-is : (step b (Close c) ms ps).book ≡ rebook b b.account (map (batched false c.hour ms ps) b.records)
  unfolding deed_of done
  next-is = (taken b (Close c) ms ps ok).next ∙ ap (λ (t : Bool). rebook b b.account (map (batched t c.hour ms ps) b.records)) few

  next-sound : sound b ≡ true → sound (rebook b b.account (map (batched false c.hour ms ps) b.records)) ≡ true
  unfolding deed_of
  next-sound sane =
      let t = taken b (Close c) ms ps ok in
      subst (λ (n : Book). sound n ≡ true) (sym t.next ∙ next-is) (done-sound b (Close c) ms ps (CloseHour c.hour) sane (fitting b (Close c) ms ps t) t.weighed)

module _ (o : Key → Bool) (H : ℕ → Bool) (W : Book) (D : Bool → Book) (I : Deal o H W D) (s : Bool) (c : Closing) (ms : List ℕ) (ps : List ℤ) (e : s ≡ H c.hour)
    (ok : (reply (step W (Close c) ms ps).answer).number ≡ 0) (kept : (reply (step W (Close c) ms ps).answer).removed ≡ false) where
  abbrev x : Dealt
  x = record { side = s; sent = record { message = Close c; mwhs = ms; prices = ps } }

  stays-whole : too_much W c.hour ms ps ≡ false
  stays-whole = sym (removed-is W c ms ps ok) ∙ kept

  stays-side : too_much (D s) c.hour ms ps ≡ false
  stays-side = kept_top (D s) (I.sane s) (I.sizes s) (I.top s) c.hour ms ps

  ok-side : (reply (step (D s) (Close c) ms ps).answer).number ≡ 0
  unfolding deed_of
  ok-side =
      let whole = taken W (Close c) ms ps ok in
      takes (D s) (Close c) ms ps (I.sane s) whole.planned (rows_same c.hour ms W.records (D s).records (same-pending o H W D I c.hour s e) whole.weighed)

  close-went : Went o H W D x
  unfolding owner
  close-went =
      let side = kept-is (D s) c ms ps ok-side stays-side in
      let whole = kept-is W c ms ps ok stays-whole in
      record {
        taken = ok-side;
        unremoved = accepted-unremoved (D s) x.sent (batch_cents c.hour ms ps (D s).records) _ _ side;
        answered = ap (λ (a : Answer). (reply a).requirement) side ∙ sym (same-cents o H W D I c.hour s e ms ps) ∙ sym (ap (λ (a : Answer). (reply a).requirement) whole);
        now =
            subst₂ (λ A B. Deal o H A (put D s B)) (sym (next-is W c ms ps ok stays-whole)) (sym (next-is (D s) c ms ps ok-side stays-side))
            (closed-deal o H W D I c.hour s e ms ps (next-sound (D s) c ms ps ok-side stays-side (I.sane s)));
      }

pub close-step : (o : Key → Bool) (H : ℕ → Bool) (W : Book) (D : Bool → Book) → Deal o H W D → (x : Dealt) (c : Closing) → x.sent.message ≡ Close c → x.side ≡ H c.hour
    → (reply (sent_to W x.sent).answer).number ≡ 0 → (reply (sent_to W x.sent).answer).removed ≡ false → Went o H W D x
close-step o H W D I x c q e ok kept =
    let ms = x.sent.mwhs in
    let ps = x.sent.prices in
    subst (λ (m : Message). Went o H W D (record { side = x.side; sent = record { message = m; mwhs = ms; prices = ps } })) (sym q)
    (close-went o H W D I x.side c ms ps e (subst (λ (m : Message). (reply (step W m ms ps).answer).number ≡ 0) q ok)
    (subst (λ (m : Message). (reply (step W m ms ps).answer).removed ≡ false) q kept))
