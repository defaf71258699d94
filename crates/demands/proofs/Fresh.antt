-- Three fresh books are dealt: an empty book holds nothing under any key, and every sum over it is 0.
-- Assumes nothing.
use mathlib.Core.Path.{◌≡◌, refl, sym, ap, ◌∙◌, subst}
use mathlib.Core.Bool.{Bool, true, false, cond, beq}
use mathlib.Core.Option.{Option, none}
use Prim.Native.Nat.{ℕ, zero, suc}
use native.Mathlib.Omega.{arith}
use lib.IntN.{ℤ, pos, ◌+ℤ◌, +ℤ_idl}
use lib.ListN.{length, replicate, length-replicate}
use Rattle.amounts.specs.Limits.{is_support}
use Rattle.amounts.specs.Lists.{sum, total}
use Rattle.amounts.proofs.Signed.{tested}
use Rattle.keys.specs.declared.Key.{Key}
use Rattle.records.specs.declared.types.Record.{Record}
use Rattle.records.specs.Records.{blank, at}
use Rattle.records.proofs.Places.{at-blank}
use Rattle.book.specs.declared.types.Book.{Book}
use Rattle.book.specs.Books.{totals, no_records, empty}
use Rattle.book.specs.Step.{fresh}
use Rattle.book.proofs.Places.{count, count-find, none≢some}
use Rattle.demands.proofs.Soundness.{empty-sound}
use Rattle.demands.specs.Three.{top_support}
use Rattle.demands.proofs.Deal.{under, Deal}

module _ {A : Type 0} (a : A) where
  total-blank : (f : A → ℤ) (n : ℕ) → f a ≡ pos 0 → total f (replicate n a) ≡ pos 0
  unfolding sum
  total-blank f zero h = refl
  total-blank f (suc n) h = rw h (+ℤ_idl (total f (replicate n a)) ∙ total-blank f n h)

  count-blank : (p : A → Bool) (n : ℕ) → p a ≡ false → count p (replicate n a) ≡ 0
  unfolding sum
  count-blank p zero h = refl
  count-blank p (suc n) h = rw h (omega (arith, count-blank p n h))

-- the empty list of places, by what is read of it
nothing-held : (f : Record → ℤ) → f blank ≡ pos 0 → total f no_records ≡ pos 0
unfolding no_records
nothing-held f h = total-blank blank f 256 h

nothing-counted : (p : Record → Bool) → p blank ≡ false → count p no_records ≡ 0
unfolding no_records
nothing-counted p h = count-blank blank p 256 h

pub empty-places : length no_records ≡ 256
unfolding no_records
empty-places = length-replicate 256 blank

pub empty-find : (z : ℤ) (k : Key) → under k (empty z) ≡ none
empty-find z k = count-find (at k) no_records (nothing-counted (at k) (at-blank k))

nones : (b : Bool) (x y : Option Record) → x ≡ none → y ≡ none → x ≡ cond b y none
nones true x y h k = h ∙ sym k
nones false x y h k = h

empty-deal : (o : Key → Bool) (H : ℕ → Bool) (z : ℤ) → Deal o H (empty z) (λ s. empty (pos top_support))
unfolding totals
empty-deal o H z =
    record {
      finds = λ s k. nones (beq s (o k)) (under k (empty (pos top_support))) (under k (empty z)) (empty-find (pos top_support) k) (empty-find z k);
      sums = λ f h. nothing-held f h ∙ sym (ap (λ q. q +ℤ total f no_records) (nothing-held f h) ∙ ap (λ q. pos 0 +ℤ q) (nothing-held f h));
      marks = λ p h. omega (arith, nothing-counted p h);
      size = empty-places;
      sizes = λ s. empty-places;
      sane = λ s. empty-sound (pos top_support) refl;
      top = λ s. refl;
      hours = λ k r e five. none≢some r (sym (empty-find z k) ∙ e);
    }

-- 01: 'an out-of-range support answers .. an empty book of support 0'
fresh-empty : (z : ℤ) → (y : ℤ) × ((fresh z).book ≡ empty y)
unfolding fresh
fresh-empty z = tested (is_support z) (λ e. (z, rw e)) (λ e. (pos 0, rw e))

pub fresh-top : (fresh (pos top_support)).book ≡ empty (pos top_support)
unfolding fresh
fresh-top = refl

pub fresh-deal : (o : Key → Bool) (H : ℕ → Bool) (z : ℤ) → Deal o H (fresh z).book (λ s. (fresh (pos top_support)).book)
fresh-deal o H z =
    let e = fresh-empty z in
    subst (λ (W : Book). Deal o H W (λ s. (fresh (pos top_support)).book)) (sym e.1)
    (subst (λ (B : Book). Deal o H (empty e.0) (λ s. B)) (sym fresh-top) (empty-deal o H e.0))
