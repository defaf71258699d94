-- 02, order 7: 'an accepted open followed at once by its withdraw gives the starting book exactly'. The theorem is taken-back, proofs/TakenBack.antt.
-- Assumes nothing.
use Rattle.std.specs.Prelude.{◌≡◌, true, List, ℕ, ℤ, pos}
use Rattle.messages.specs.declared.types.Message.{Message}
use Rattle.messages.specs.declared.types.Message.TheVariants.{Withdraw}
use Rattle.messages.specs.Plan.{key_of, opens}
use Rattle.refusals.specs.declared.Answer.TheVariants.{Accepted}
use Rattle.book.specs.declared.types.Book.{Book}
use Rattle.book.specs.declared.types.Outcome.{Outcome}
use Rattle.book.specs.Books.{held, owed}
use Rattle.book.specs.Step.{step}
use Rattle.demands.specs.Runs.{next_book, replied}

module _ (b : Book) (m : Message) (mwhs : List ℕ) (prices : List ℤ) where
  -- 'an accepted open': of one curve, of four or of two sides, so of every kind, and by any book
  pub record Opened : Type 0 where
    pub begins : opens m ≡ true
    pub accepted : (replied b m mwhs prices).number ≡ 0

  -- 'followed at once by its withdraw'. Whatever lists are lent with that: a withdraw reads none
  abbrev pub withdrawn : List ℕ → List ℤ → Outcome
  withdrawn ms ps = step (next_book b m mwhs prices) (Withdraw (key_of m)) ms ps

  pub record TakenBack : Type 0 where
    -- the withdraw is accepted: it answers requirement 0, and held and net owed as they were before the open
    pub accepted : Opened → (ms : List ℕ) (ps : List ℤ) → (withdrawn ms ps).answer ≡ Accepted (pos 0) (held b) (owed b)
    -- 'gives the starting book exactly': its places, its kept totals and its support
    pub starting : Opened → (ms : List ℕ) (ps : List ℤ) → (withdrawn ms ps).book ≡ b
