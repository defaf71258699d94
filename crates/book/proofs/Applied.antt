-- What `Book::apply` sees once its walk is at its end, and what it makes of it, over plain values.
use Prim.Native.Nat.{ℕ}
use mathlib.Core.Path.{◌≡◌, refl, sym, ap, ◌∙◌, subst}
use mathlib.Core.Bool.{true}
use mathlib.Core.List.{List}
use lib.IntN.{ℤ}
use lib.ListN.{length}
use Rattle.keys.specs.declared.Key.{Key}
use Rattle.records.specs.declared.types.Record.{Record}
use Rattle.records.specs.Records.{at}
use Rattle.messages.specs.declared.types.Message.{Message}
use Rattle.messages.specs.Plan.{key_of, plan}
use Rattle.credit.specs.declared.types.Sums.{Sums}
use Rattle.credit.specs.Account.{keeps_totals}
use Rattle.credit.specs.Sums.{held_of, keeps_sums}
use Rattle.book.specs.Books.{Book, lookup, sound, held, owed}
use Rattle.book.specs.Step.{step}
use Rattle.endings.specs.declared.types.View.{View}
use Rattle.endings.specs.declared.types.Ending.{Ending}
use Rattle.endings.specs.Endings.{view_of, Summable, ended}
use Rattle.endings.specs.declared.types.Left.{Left}
use Rattle.walk.specs.declared.types.Walk.{Walk}
use Rattle.walk.specs.Walk.{under}
use Rattle.book.proofs.Passed.{position}
use Rattle.book.proofs.Sums.{held_by}
use Rattle.book.proofs.Codes.{sound-by}
use Rattle.book.proofs.Walked.{Walked, all-ranged, all_coded, free-is, place_is, summed, looked-up}
use Rattle.book.proofs.Written.{Sees, written, placed, OfBatch, NoBatch, Fitting, ends, HandedOn, handed-on, fitting, summable}
use Rattle.std.specs.Prelude.{Result}
use Rattle.refusals.specs.declared.Refusal.{Refusal}
use Rattle.refusals.specs.Refusals.{verdict_of}
use Rattle.messages.specs.declared.types.Deed.{Deed}

-- what an ending leaves: a record for one of the places, or the batch of an hour; without a batch, what is written is the step
pub record Carried (b : Book) (m : Message) (ms : List ℕ) (ps : List ℤ) (e : Ending) (left : Left) : Type 0 where
  pub fitting : Fitting left
  pub handed : OfBatch (HandedOn b m ms ps) left
  pub goes : NoBatch left → record { book = record { records = placed b.records left; account = e.account }; answer = e.answer } ≡ step b m ms ps

-- what the message sees, once the walk is at its end
module _ (b : Book) (m : Message) (ms : List ℕ) (ps : List ℤ) (key : Key) (key-is : key ≡ key_of m) (codes : List ℕ) (walk : Walk) (few : length b.records ≡ 256) (walked : Walked key b.records codes walk 0)
    (old : Record) (old-is : old ≡ under walk b.records) (seen : View) (view-so : seen ≡ view_of walk b.account codes old)
    (result : Result Deed Refusal) (plan-is : verdict_of result ≡ plan old m ms ps) where
  abbrev pub view : View
  view = view_of walk b.account codes old

  -- the sums of the walk are those that the totals are held to
  keeps-so : keeps_sums b.account walk.sums ≡ keeps_totals b.account (held b) (owed b)
  unfolding owed
  keeps-so =
      let s = summed b key codes walk few walked in
      λ i. keeps_totals b.account ((ap (λ (t : Sums). held_of t.unbilled t.owed) s ∙ held_by b) i) (s i).owed

  pub sound-so : view.sound ≡ sound b
  sound-so = sound-by b (keeps_sums b.account walk.sums) codes (all-ranged b key codes walk few walked) (all_coded b key codes walk few walked) keeps-so

  pub sees : Sees b (key_of m) view
  sees =
      let rs = b.records in
      record {
        sums = summed b key codes walk few walked;
        lowest = free-is b key codes walk few walked;
        place = place_is b key codes walk few walked ∙ ap (λ (k : Key). position (at k) rs) key-is;
        under = old-is ∙ looked-up b key codes walk few walked ∙ ap (lookup b) key-is;
      }

  pub planned-so : verdict_of result ≡ plan (lookup b (key_of m)) m ms ps
  planned-so = plan-is ∙ ap (λ (r : Record). plan r m ms ps) sees.under

  pub summable-so : seen.sound ≡ true → Summable seen result
  summable-so = subst (λ (s : View). s.sound ≡ true → Summable s result) (sym view-so) (summable b m ms ps view few refl sound-so sees result planned-so)

  ends_so : NoBatch (ended seen (verdict_of result)).left → written b (ended seen (verdict_of result)) ≡ step b m ms ps
  ends_so =
      subst (λ (s : View). NoBatch (ended s (verdict_of result)).left → written b (ended s (verdict_of result)) ≡ step b m ms ps) (sym view-so)
      (ends b m ms ps view few refl sound-so sees result planned-so)

  -- or it leaves the batch of an hour
  handed_so : OfBatch (HandedOn b m ms ps) (ended seen (verdict_of result)).left
  handed_so =
      subst (λ (s : View). OfBatch (HandedOn b m ms ps) (ended s (verdict_of result)).left) (sym view-so)
      (handed-on b m ms ps view few refl sound-so sees result planned-so)

  fitting_so : Fitting (ended seen (verdict_of result)).left
  fitting_so = subst (λ (s : View). Fitting (ended s (verdict_of result)).left) (sym view-so) (fitting b m ms ps view few refl sound-so sees result planned-so)

  -- what the ending leaves
  pub ended-so : (e : Ending) → e ≡ ended seen (verdict_of result) → (left : Left) → e.left ≡ left → Carried b m ms ps e left
  ended-so e ending-is left left-is =
      let leaves : (ended seen (verdict_of result)).left ≡ left = ap (λ (x : Ending). x.left) (sym ending-is) ∙ left-is in
      record {
        fitting = subst Fitting leaves fitting_so;
        handed = subst (OfBatch (HandedOn b m ms ps)) leaves handed_so;
        goes = λ none.
            (λ i. record { book = record { records = placed b.records (sym left-is i); account = e.account }; answer = e.answer })
            ∙ ap (written b) ending-is
            ∙ ends_so (subst NoBatch (sym leaves) none);
      }
