-- The number that is answered: accepted exactly when no row applies, else the first that does; and what a refusal gives back.
-- Assumes nothing.
use mathlib.Core.Path.{◌≡◌, refl, sym, ap, ◌∙◌, subst}
use mathlib.Core.Bool.{Bool, true, false, cond}
use mathlib.Core.List.{List}
use Prim.Native.Nat.{ℕ}
use lib.Dec.{eqb}
use lib.IntN.{ℤ}
use borrow.Author.Tests.{eqb-true}
use Rattle.refusals.specs.Refusals.{first, refuse, accept, answered, judge, None, First}
use Rattle.refusals.proofs.Laws.{numbered, none-applies, none_first, first-applies, first-is, numbered-append}
use Rattle.messages.specs.declared.types.Message.{Message}
use Rattle.messages.specs.declared.types.Deed.{Deed}
use Rattle.messages.specs.declared.types.Deed.TheVariants.{Keyed, SetSupport, CloseHour}
use Rattle.messages.specs.Plan.{key_of, plan_rows}
use Rattle.messages.proofs.Fits.{plan-rows-numbered}
use Rattle.credit.proofs.Rows.{credit-rows-numbered}
use Rattle.batches.specs.Batches.{batch_rows}
use Rattle.book.specs.declared.types.Book.{Book}
use Rattle.book.specs.Books.{lookup, totals, held_answered, owed_answered}
use Rattle.refusals.specs.Answers.{reply}
use Rattle.refusals.specs.declared.Answer.TheVariants.{Accepted, Removed}
use Rattle.book.specs.Refusals.{table}
use Rattle.book.proofs.Verdicts.{book_rows, table-parts}
use Rattle.book.specs.Step.{deed_of, too_much, answer_to, verdict, outcome, step}
use Rattle.demands.specs.Runs.{next_book, replied}
use Rattle.demands.specs.One.{Refusal}

-- a batch that was removed is no refusal
number-none : (t : Bool) (z h o : ℤ) → (reply (cond t (Removed h o) (Accepted z h o))).number ≡ 0
number-none true z h o = refl
number-none false z h o = refl

answer-number : (b : Book) (ms : List ℕ) (ps : List ℤ) (d : Deed) (h o : ℤ) → (reply (answer_to b ms ps d h o)).number ≡ 0
unfolding answer_to
answer-number b ms ps (Keyed c) h o = refl
answer-number b ms ps (SetSupport z) h o = refl
answer-number b ms ps (CloseHour hour) h o = number-none (too_much b hour ms ps) _ h o

-- no row that sees more of the book has the number 0
book-rows-numbered : (b : Book) (ms : List ℕ) (d : Deed) → numbered (book_rows b ms d) ≡ true
unfolding numbered batch_rows
book-rows-numbered b ms (Keyed c) = credit-rows-numbered (totals b) (Keyed c)
book-rows-numbered b ms (SetSupport z) = credit-rows-numbered (totals b) (SetSupport z)
book-rows-numbered b ms (CloseHour hour) = refl

module _ (b : Book) (m : Message) (ms : List ℕ) (ps : List ℤ) where
  pub table-numbered : numbered (table b m ms ps) ≡ true
  unfolding numbered
  table-numbered =
      ap numbered (table-parts b m ms ps)
      ∙ numbered-append (plan_rows (lookup b (key_of m)) m ms ps) (book_rows b ms (deed_of b m ms ps)) (plan-rows-numbered (lookup b (key_of m)) m ms ps)
      (book-rows-numbered b ms (deed_of b m ms ps))

  number_by : (n : ℕ) (d : Deed) (t : Bool) → eqb n 0 ≡ t → (reply (outcome b ms ps (cond t (accept d) (refuse n))).answer).number ≡ n
  unfolding outcome
  number_by n d true e = answer-number b ms ps d _ _ ∙ sym (eqb-true n 0 e)
  number_by n d false e = refl

  -- the number that is answered is the first row of the table that applies; 0 is none
  pub number_is : (replied b m ms ps).number ≡ first (table b m ms ps)
  unfolding step verdict judge answered
  number_is = number_by (first (table b m ms ps)) (deed_of b m ms ps) (eqb (first (table b m ms ps)) 0) refl

  -- 'accepted exactly when none of document 01's refusals applies'
  pub accepted-none : (replied b m ms ps).number ≡ 0 → None (table b m ms ps)
  accepted-none h = none-applies (table b m ms ps) table-numbered (sym number_is ∙ h)

  pub none-accepted : None (table b m ms ps) → (replied b m ms ps).number ≡ 0
  none-accepted h = number_is ∙ none_first (table b m ms ps) h

  -- 'else the first in 01's order'
  pub refused-first : ((replied b m ms ps).number ≡ 0 → ⊥) → First (replied b m ms ps).number (table b m ms ps)
  refused-first h =
      subst (λ (n : ℕ). First n (table b m ms ps)) (sym number_is) (first-applies (table b m ms ps) (λ z. h (number_is ∙ z)))

  pub first-refused : (n : ℕ) → First n (table b m ms ps) → (replied b m ms ps).number ≡ n
  first-refused n h = number_is ∙ first-is n (table b m ms ps) h

  unchanged-by : (n : ℕ) (d : Deed) (t : Bool) → eqb n 0 ≡ t → (n ≡ 0 → ⊥)
      → let o = outcome b ms ps (cond t (accept d) (refuse n)) in Refusal b o.book (reply o.answer)
  unfolding outcome held_answered owed_answered
  unchanged-by n d true e h = absurd (h (eqb-true n 0 e))
  unchanged-by n d false e h = record { book = refl; requirement = refl; held = refl; owed = refl; removed = refl }

  -- 'A refusal gives back the same book'
  pub unchanged : ((replied b m ms ps).number ≡ 0 → ⊥) → Refusal b (next_book b m ms ps) (replied b m ms ps)
  unfolding step verdict judge answered
  unchanged h = let n = first (table b m ms ps) in unchanged-by n (deed_of b m ms ps) (eqb n 0) refl (λ z. h (number_is ∙ z))
