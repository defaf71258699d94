-- A sound book stays sound under every message, and a fresh book is sound.
-- Assumes nothing.
use mathlib.Core.Path.{◌≡◌, refl, sym, ap, ◌∙◌, subst}
use mathlib.Core.Bool.{Bool, true, false, cond, ◌&&◌}
use mathlib.Core.List.{List, [], ◌∷◌}
use Prim.Native.Nat.{ℕ}
use lib.Dec.{eqb}
use lib.IntN.{ℤ, pos}
use borrow.Author.Tests.{eqb-true, eqb-false}
use Rattle.amounts.specs.Limits.{is_support}
use Rattle.amounts.specs.Lists.{sum, every}
use Rattle.refusals.proofs.Laws.{and_left, and_right}
use Rattle.messages.specs.declared.types.Message.{Message}
use Rattle.records.specs.Records.{is_blank, is_free, ok_place}
use Rattle.credit.specs.declared.types.Account.{Account}
use Rattle.credit.specs.Account.{fresh_account}
use Rattle.credit.specs.Credit.{owes}
use Rattle.book.specs.declared.types.Book.{Book}
use Rattle.book.specs.Books.{sound, distinct, no_records, empty, account_over}
use Rattle.book.specs.declared.types.Outcome.{Outcome}
use Rattle.refusals.specs.declared.Answer.TheVariants.{Accepted, Refused}
use Rattle.book.specs.Step.{fresh, step, deed_of}
use Rattle.book.proofs.Kept.{sound-make, done-sound}
use Rattle.demands.specs.Runs.{replied, Sent, after}
use Rattle.demands.proofs.Answers.{unchanged}
use Rattle.demands.proofs.Accepted.{taken, fitting}

kept_by : (b : Book) (m : Message) (ms : List ℕ) (ps : List ℤ) (t : Bool) → eqb (replied b m ms ps).number 0 ≡ t → sound b ≡ true → sound (step b m ms ps).book ≡ true
kept_by b m ms ps true e h =
    let k = taken b m ms ps (eqb-true (replied b m ms ps).number 0 e) in
    subst (λ (x : Book). sound x ≡ true) (sym k.next) (done-sound b m ms ps (deed_of b m ms ps) h (fitting b m ms ps k) k.weighed)
kept_by b m ms ps false e h =
    subst (λ (x : Book). sound x ≡ true) (sym (unchanged b m ms ps (eqb-false (replied b m ms ps).number 0 e)).book) h

-- accepted or refused, the next book of a sound book is sound
pub sound-kept : (b : Book) (m : Message) (ms : List ℕ) (ps : List ℤ) → sound b ≡ true → sound (step b m ms ps).book ≡ true
sound-kept b m ms ps h = kept_by b m ms ps (eqb (replied b m ms ps).number 0) refl h

-- so any run from a sound book ends in one
pub run_sound : (b : Book) (xs : List Sent) → sound b ≡ true → sound (after b xs) ≡ true
unfolding after
run_sound b [] h = h
run_sound b (x ∷ xs) h = run_sound (step b x.message x.mwhs x.prices).book xs (sound-kept b x.message x.mwhs x.prices h)

-- ---- a fresh book

-- the 256 free places are in range, and no two of them have a key: one test, computed
empty-places : every ok_place no_records && distinct no_records ≡ true
unfolding no_records every ok_place is_blank distinct is_free
empty-places = refl

-- and their totals are 0: another
empty-totals : (z : ℤ) → account_over (fresh_account z) no_records ≡ fresh_account z
unfolding no_records sum owes
empty-totals z = refl

pub empty-sound : (z : ℤ) → is_support z ≡ true → sound (empty z) ≡ true
empty-sound z h =
    let places = every ok_place no_records in
    let apart = distinct no_records in
    ap (λ (a : Account). sound (record { records = no_records; account = a })) (sym (empty-totals z))
    ∙ sound-make (empty z) (fresh_account z) no_records h (and_left places apart empty-places) (and_right places apart empty-places)

fresh-by : (z : ℤ) (t : Bool) → is_support z ≡ t → (o : Outcome) → o ≡ cond t (record { book = empty z; answer = Accepted (pos 0) (pos 0) (pos 0) }) (record { book = empty (pos 0); answer = Refused 9 (pos 0) (pos 0) }) → sound o.book ≡ true
fresh-by z true e o q = rw q (empty-sound z e)
fresh-by z false e o q = rw q (empty-sound (pos 0) refl)

-- a fresh book is sound, whatever support was given
pub fresh-sound : (z : ℤ) → sound (fresh z).book ≡ true
unfolding fresh
fresh-sound z = fresh-by z (is_support z) refl (fresh z) refl
