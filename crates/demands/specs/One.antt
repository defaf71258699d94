-- Demand 1: 'Any message meets any book, sound or not, with a fixed answer: accepted exactly when none of document 01's refusals applies,
-- else the first in 01's order. A refusal gives back the same book.' The theorems are demand-one and demand-one-fresh, proofs/One.antt.
-- Assumes nothing.
use Rattle.std.specs.Prelude.{◌≡◌, true, false, cond, List, ◌↔◌, ℕ, ℤ, pos}
use Rattle.refusals.specs.Refusals.{None, First}
use Rattle.messages.specs.declared.types.Message.{Message}
use Rattle.refusals.specs.Answers.{Reply, reply}
use Rattle.book.specs.declared.types.Book.{Book}
use Rattle.book.specs.declared.types.Outcome.{Outcome}
use Rattle.book.specs.Books.{sound, held, owed}
use Rattle.book.specs.Refusals.{table}
use Rattle.book.specs.Step.{step, fresh}
use Rattle.demands.specs.Runs.{next_book, replied, Sent, sent_to, after}

pub record Refusal (b next : Book) (answer : Reply) : Type 0 where
  -- 'A refusal gives back the same book'
  pub book : next ≡ b
  -- 01: 'A refusal answers its number, requirement 0, the held and net owed of the unchanged book (both 0 for 1)'
  pub requirement : answer.requirement ≡ pos 0
  pub held : answer.held ≡ cond (sound b) (held b) (pos 0)
  pub owed : answer.owed ≡ cond (sound b) (owed b) (pos 0)
  -- 02, order 3: a batch is removed by an acceptance alone
  pub removed : answer.removed ≡ false

module _ (b : Book) (m : Message) (mwhs : List ℕ) (prices : List ℤ) where
  abbrev next : Book
  next = next_book b m mwhs prices

  abbrev answer : Reply
  answer = replied b m mwhs prices

  pub record DemandOne : Type 0 where
    -- 'with a fixed answer'; 01: 'any two results that satisfy it are shown equal'. The contract of a message is r ≡ step ..
    pub fixed : (r s : Outcome) → r ≡ step b m mwhs prices → s ≡ step b m mwhs prices → r ≡ s
    -- 'accepted exactly when none of document 01's refusals applies'
    pub accepted : (answer.number ≡ 0) ↔ None (table b m mwhs prices)
    -- 'else the first in 01's order'
    pub refused : (n : ℕ) → (n ≡ 0 → ⊥) → (answer.number ≡ n) ↔ First n (table b m mwhs prices)
    -- 01: '1 | book not sound', and nothing else is refused so
    pub unsound : (answer.number ≡ 1) ↔ (sound b ≡ false)
    -- 'A refusal gives back the same book', and its answer
    pub refusal : (answer.number ≡ 0 → ⊥) → Refusal b next answer
    -- a sound book stays sound, so that refusal 1 never comes of a message
    pub kept : sound b ≡ true → sound next ≡ true

-- a book that began fresh, whatever support was given
pub record FreshRuns (support : ℤ) : Type 0 where
  pub begins : sound (fresh support).book ≡ true
  -- after any run, in which messages may be refused, it is sound and meets no refusal 1
  pub stays : (xs : List Sent) → sound (after (fresh support).book xs) ≡ true
  pub unrefused : (xs : List Sent) (x : Sent) → (reply (sent_to (after (fresh support).book xs) x).answer).number ≡ 1 → ⊥
