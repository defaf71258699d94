-- A close over the places and what is kept beside them is the step of a sound book (02, order 3).
-- Assumes nothing.
use mathlib.Core.Path.{◌≡◌, refl, sym, ap, ◌∙◌}
use mathlib.Core.Bool.{Bool, true, false, cond}
use mathlib.Core.List.{List, map}
use Prim.Native.Nat.{ℕ}
use lib.IntN.{ℤ, pos, ◌+ℤ◌, +ℤ_idr}
use Rattle.refusals.specs.Refusals.{first, judge, answered}
use Rattle.refusals.specs.declared.Answer.TheVariants.{Accepted, Refused, Removed}
use Rattle.messages.specs.declared.types.Deed.TheVariants.{CloseHour}
use Rattle.records.specs.declared.types.Record.{Record}
use Rattle.credit.specs.Account.{totalled}
use Rattle.batches.specs.declared.types.Closed.{Closed}
use Rattle.batches.specs.Batches.{unmatched, batch_rows, batch_cents, exceeds, batched}
use Rattle.batches.specs.Closing.{refused_by, settled_by, closed_by}
use Rattle.batches.proofs.Laws.{batched-held, batched-owed}
use Rattle.book.specs.Books.{Book, sound, held, owed, held_over, owed_over, held_answered, owed_answered}
use Rattle.book.specs.Step.{Outcome, too_much, done, answer_to, outcome}
use Rattle.book.proofs.Kept.{sound-places, kept-held, kept-owed}

-- the book and the answer of a close
abbrev pub closed_book : Closed → Outcome
closed_book c = record { book = record { records = c.records; account = c.account }; answer = c.answer }

module _ (b : Book) (hour : ℕ) (paths : List ℕ) (prices : List ℤ) (h : sound b ≡ true) where
  abbrev rs : List Record
  rs = b.records

  abbrev cents : ℤ
  cents = batch_cents hour paths prices rs

  abbrev after : Bool → List Record
  after much = map (batched much hour paths prices) rs

  held_after : (much : Bool) → b.account.held +ℤ cond much (pos 0) cents ≡ held_over (after much)
  unfolding held
  held_after much = ap (λ (z : ℤ). z +ℤ cond much (pos 0) cents) (kept-held b h) ∙ sym (batched-held much hour paths prices rs (sound-places b h))

  owed-after : (much : Bool) → b.account.owed ≡ owed_over (after much)
  unfolding owed
  owed-after much = kept-owed b h ∙ sym (batched-owed much hour paths prices rs (sound-places b h))

  -- a batch that is removed adds nothing
  same-held : b.account.held ≡ held_over (after true)
  same-held = sym (+ℤ_idr b.account.held) ∙ held_after true

  settled_is : (much : Bool) → closed_book (settled_by much b.account hour paths prices rs)
      ≡ record {
        book = record { records = after much; account = totalled b.account (held_over (after much)) (owed_over (after much)) };
        answer = cond much (Removed (held_over (after much)) (owed_over (after much))) (Accepted cents (held_over (after much)) (owed_over (after much)));
      }
  unfolding settled_by
  settled_is true = λ i. record {
    book = record { records = after true; account = totalled b.account (same-held i) (owed-after true i) };
    answer = Removed (same-held i) (owed-after true i);
  }
  settled_is false = λ i. record {
    book = record { records = after false; account = totalled b.account (held_after false i) (owed-after false i) };
    answer = Accepted cents (held_after false i) (owed-after false i);
  }

  refused-is : closed_book (refused_by b.account rs) ≡ record { book = b; answer = Refused 11 (held_answered b) (owed_answered b) }
  unfolding refused_by held_answered owed_answered
  refused-is = rw h (λ i. record { book = b; answer = Refused 11 (kept-held b h i) (kept-owed b h i) })

  closed-by : (t : Bool) → unmatched hour paths rs ≡ t
      → closed_book (cond t (refused_by b.account rs) (settled_by (exceeds b.account.support b.account.held cents) b.account hour paths prices rs))
      ≡ outcome b paths prices (answered (cond t 11 0) (CloseHour hour))
  unfolding outcome answered done answer_to too_much held owed
  closed-by true e = refused-is
  closed-by false e = settled_is (exceeds b.account.support b.account.held cents)

  pub closed_is : closed_book (closed_by b.account hour paths prices rs) ≡ outcome b paths prices (judge (batch_rows hour paths rs) (CloseHour hour))
  unfolding closed_by judge batch_rows first
  closed_is = closed-by (unmatched hour paths rs) refl
