-- An accepted message: what its acceptance says, and what it does.
-- Assumes nothing.
use mathlib.Core.Path.{◌≡◌, refl, subst}
use mathlib.Core.Bool.{Bool, true, false, cond}
use mathlib.Core.List.{List}
use Prim.Native.Nat.{ℕ}
use lib.IntN.{ℤ}
use borrow.Author.Tests.{not-false}
use Rattle.refusals.specs.Refusals.{None}
use Rattle.refusals.proofs.Laws.{judge-none, none-split}
use Rattle.messages.specs.declared.types.Message.{Message}
use Rattle.messages.specs.Plan.{key_of, plan_rows, plan}
use Rattle.messages.proofs.Fits.{Fits, fits}
use Rattle.messages.specs.declared.types.Deed.{Deed}
use Rattle.messages.specs.declared.types.Deed.TheVariants.{Keyed, SetSupport, CloseHour}
use Rattle.refusals.specs.Answers.{reply}
use Rattle.refusals.specs.declared.Answer.TheVariants.{Accepted, Removed}
use Rattle.book.specs.declared.types.Book.{Book}
use Rattle.book.specs.Books.{lookup, sound, held, owed}
use Rattle.book.specs.Refusals.{table}
use Rattle.book.proofs.Verdicts.{book_rows, table-parts}
use Rattle.book.specs.Step.{deed_of, too_much, done, answer_to, verdict, outcome, step}
use Rattle.book.proofs.Kept.{lookup-under}
use Rattle.demands.specs.Runs.{replied}
use Rattle.demands.proofs.Answers.{accepted-none}

-- held and net owed of an acceptance, of a batch that was removed too
module _ (b : Book) (ms : List ℕ) (ps : List ℤ) where
  held_by : (t : Bool) (z h o : ℤ) → (reply (cond t (Removed h o) (Accepted z h o))).held ≡ h
  held_by true z h o = refl
  held_by false z h o = refl

  owed-by : (t : Bool) (z h o : ℤ) → (reply (cond t (Removed h o) (Accepted z h o))).owed ≡ o
  owed-by true z h o = refl
  owed-by false z h o = refl

  answer-held : (d : Deed) (h o : ℤ) → (reply (answer_to b ms ps d h o)).held ≡ h
  unfolding answer_to
  answer-held (Keyed c) h o = refl
  answer-held (SetSupport z) h o = refl
  answer-held (CloseHour hour) h o = held_by (too_much b hour ms ps) _ h o

  answer-owed : (d : Deed) (h o : ℤ) → (reply (answer_to b ms ps d h o)).owed ≡ o
  unfolding answer_to
  answer-owed (Keyed c) h o = refl
  answer-owed (SetSupport z) h o = refl
  answer-owed (CloseHour hour) h o = owed-by (too_much b hour ms ps) _ h o

module _ (b : Book) (m : Message) (ms : List ℕ) (ps : List ℤ) where
  -- the book is sound, no refusal applies, what is asked for is done, and held and net owed are those of the next book
  pub record Taken : Type 0 where
    pub sane : sound b ≡ true
    pub planned : None (plan_rows (lookup b (key_of m)) m ms ps)
    pub weighed : None (book_rows b ms (deed_of b m ms ps))
    pub next : (step b m ms ps).book ≡ done b ms ps (deed_of b m ms ps)
    pub answer : (step b m ms ps).answer ≡ answer_to b ms ps (deed_of b m ms ps) (held (step b m ms ps).book) (owed (step b m ms ps).book)
    pub held : (replied b m ms ps).held ≡ held (step b m ms ps).book
    pub owed : (replied b m ms ps).owed ≡ owed (step b m ms ps).book

  apart_of : None (table b m ms ps) → (sound b ≡ true) × (None (plan_rows (lookup b (key_of m)) m ms ps) × None (book_rows b ms (deed_of b m ms ps)))
  unfolding None
  apart_of n =
      let s = subst None (table-parts b m ms ps) n in
      (not-false (sound b) s.0, none-split (plan_rows (lookup b (key_of m)) m ms ps) (book_rows b ms (deed_of b m ms ps)) s.1)

  -- what the acceptance of a message says
  pub taken : (replied b m ms ps).number ≡ 0 → Taken
  unfolding step verdict outcome deed_of
  taken h =
      let none = accepted-none b m ms ps h in
      let parts = apart_of none in
      let v = judge-none (table b m ms ps) (deed_of b m ms ps) none in
      record {
        sane = parts.0;
        planned = parts.1.0;
        weighed = parts.1.1;
        next = rw v;
        answer = rw v;
        held = rw v (answer-held b ms ps (deed_of b m ms ps) _ _);
        owed = rw v (answer-owed b ms ps (deed_of b m ms ps) _ _);
      }

  -- and what it asks for fits the record under its key
  pub fitting : Taken → Fits (lookup b (key_of m)) m (deed_of b m ms ps)
  unfolding plan deed_of
  fitting t =
      fits (lookup b (key_of m)) m ms ps (deed_of b m ms ps) (lookup-under b (key_of m) t.sane)
      (judge-none (plan_rows (lookup b (key_of m)) m ms ps) (deed_of b m ms ps) t.planned)
