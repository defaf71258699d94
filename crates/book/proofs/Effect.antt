-- What a change does to the places of a sound book: the laws that soundness and the theorems on runs use, and nothing else.
-- Assumes nothing.
use mathlib.Core.Path.{◌≡◌, refl, sym, ap, ◌∙◌}
use mathlib.Core.Bool.{Bool, true, false}
use mathlib.Core.List.{List}
use mathlib.Core.Option.{Option, none, some}
use Prim.Native.Nat.{ℕ, ◌+◌, ◌≤◌}
use native.Mathlib.Omega.{arith}
use lib.IntN.{ℤ, pos, ◌+ℤ◌}
use lib.ListN.{length}
use Rattle.amounts.specs.Lists.{total, every}
use Rattle.refusals.proofs.Laws.{never}
use Rattle.keys.specs.declared.Key.{Key}
use Rattle.keys.specs.Keys.{same_key}
use Rattle.records.specs.declared.types.Record.{Record}
use Rattle.records.specs.Records.{blank, is_free, at, ok_place}
use Rattle.records.proofs.Places.{at-blank, at_key, at-used, at_own, free-at, at-apart, place-free, ok-place, ok-blank}
use Rattle.messages.proofs.Fits.{Fine}
use Rattle.book.specs.Places.{find, swap, missing}
use Rattle.book.specs.Books.{distinct}
use Rattle.book.proofs.Places.{count, bit, find-passes, find-count, count-find, find-other, find-new, find-same, swap-total, swap-count, swap-length, every-swap, every-find}
use Rattle.book.proofs.Distinct.{distinct-count, count-distinct}

abbrev pub weight : (Record → ℤ) → Option Record → ℤ
weight f none = pos 0
weight f (some r) = f r

abbrev pub mark : (Record → Bool) → Option Record → ℕ
mark p none = 0
mark p (some r) = bit (p r)

pub record Effect (k : Key) (xs ys : List Record) (new : Option Record) : Type 0 where
  pub here : find (at k) ys ≡ new
  pub there : (l : Key) → same_key k l ≡ false → find (at l) ys ≡ find (at l) xs
  pub sums : (f : Record → ℤ) → f blank ≡ pos 0 → total f ys +ℤ weight f (find (at k) xs) ≡ total f xs +ℤ weight f new
  pub marks : (p : Record → Bool) → p blank ≡ false → count p ys + mark p (find (at k) xs) ≡ count p xs + mark p new
  pub size : length ys ≡ length xs
  pub fine : every ok_place ys ≡ true
  pub apart : distinct ys ≡ true

pub missing-some : (o : Option Record) → missing o ≡ false → (x : Record) × (o ≡ some x)
unfolding missing
missing-some none h = never (sym h)
missing-some (some r) h = (r, refl)

ok_fine : (k : Key) (r : Record) → Fine k r → ok_place r ≡ true
ok_fine k r h = ok-place r h.ok

bit-false : (p : Record → Bool) (r : Record) → p r ≡ false → bit (p r) ≡ 0
bit-false p r h = ap bit h

module _ (k : Key) (xs : List Record) (ok : every ok_place xs ≡ true) (dis : distinct xs ≡ true) where
  -- an overwritten place: p says which, x stood there, r stands there now
  keep_one : (p : Record → Bool) (x r : Record) → find p xs ≡ some x → ((l : Key) → count (at l) xs + bit (at l r) ≤ 1 + bit (at l x)) → distinct (swap p r xs) ≡ true
  keep_one p x r e h = count-distinct (swap p r xs) (λ l. omega (arith, swap-count p (at l) x r xs e, h l))

  added-one : (r : Record) → find (at k) xs ≡ none → r.key ≡ k → is_free r ≡ false → (l : Key) (b : Bool) → at l r ≡ b → count (at l) xs + bit b ≤ 1
  added-one r e own used l false h = omega (arith, distinct-count xs dis l)
  added-one r e own used l true h =
      let z : count (at l) xs ≡ 0 = find-count (at l) xs (rw (at_key l r h ∙ own) e) in
      omega arith

  other_key : (l : Key) (r : Record) → r.key ≡ k → is_free r ≡ false → same_key k l ≡ false → at l r ≡ false
  other_key l r own used h = at-apart k l r h (at_own k r own used)

  pub effect-add : (r : Record) → find (at k) xs ≡ none → missing (find is_free xs) ≡ false → Fine k r → Effect k xs (swap is_free r xs) (some r)
  effect-add r e room g =
      let found = missing-some (find is_free xs) room in
      let x : Record = found.0 in
      let ex : find is_free xs ≡ some x = found.1 in
      let bx : x ≡ blank = place-free x (every-find is_free ok_place x xs ok ex) (find-passes is_free x xs ex) in
      let fb : find is_free xs ≡ some blank = ex ∙ ap some bx in
      record {
        here = find-new is_free (at k) r x xs ex e (at_own k r g.own g.used);
        there = λ l h. find-other is_free (at l) r xs (λ y hy. free-at l y hy) (other_key l r g.own g.used h);
        sums = λ f hf. rw e (ap (λ z. total f (swap is_free r xs) +ℤ z) (sym hf) ∙ swap-total is_free f blank r xs fb);
        marks = λ p hp. rw e (omega (arith, swap-count is_free p blank r xs fb, bit-false p blank hp));
        size = swap-length is_free r xs;
        fine = every-swap is_free ok_place r xs ok (ok_fine k r g);
        apart = keep_one is_free blank r fb (λ l. omega (arith, added-one r e g.own g.used l (at l r) refl));
      }

  same_bit : (x r : Record) → at k x ≡ true → r.key ≡ k → is_free r ≡ false → (l : Key) → at l r ≡ at l x
  unfolding at
  same_bit x r hx own used l = rw (used, at-used k x hx, own, at_key k x hx) refl

  pub effect-put : (x r : Record) → find (at k) xs ≡ some x → Fine k r → Effect k xs (swap (at k) r xs) (some r)
  effect-put x r e g =
      let hx : at k x ≡ true = find-passes (at k) x xs e in
      record {
        here = find-same (at k) r x xs e (at_own k r g.own g.used);
        there = λ l h. find-other (at k) (at l) r xs (λ y hy. at-apart k l y h hy) (other_key l r g.own g.used h);
        sums = λ f hf. rw e (swap-total (at k) f x r xs e);
        marks = λ p hp. rw e (swap-count (at k) p x r xs e);
        size = swap-length (at k) r xs;
        fine = every-swap (at k) ok_place r xs ok (ok_fine k r g);
        apart = keep_one (at k) x r e (λ l. omega (arith, ap bit (same_bit x r hx g.own g.used l), distinct-count xs dis l));
      }

  pub effect-drop : (x : Record) → find (at k) xs ≡ some x → Effect k xs (swap (at k) blank xs) none
  effect-drop x e =
      let hx : at k x ≡ true = find-passes (at k) x xs e in
      record {
        here = count-find (at k) (swap (at k) blank xs) (omega (arith, swap-count (at k) (at k) x blank xs e, ap bit hx, ap bit (at-blank k), distinct-count xs dis k));
        there = λ l h. find-other (at k) (at l) blank xs (λ y hy. at-apart k l y h hy) (at-blank l);
        sums = λ f hf. rw e (swap-total (at k) f x blank xs e ∙ ap (λ z. total f xs +ℤ z) hf);
        marks = λ p hp. rw e (omega (arith, swap-count (at k) p x blank xs e, bit-false p blank hp));
        size = swap-length (at k) blank xs;
        fine = every-swap (at k) ok_place blank xs ok ok-blank;
        apart = keep_one (at k) x blank e (λ l. omega (arith, ap bit (at-blank l), distinct-count xs dis l));
      }
