-- Demand 1: the answered number is the first row that applies, a refusal changes nothing, and an acceptance keeps a book sound.
-- Assumes nothing.
use mathlib.Core.Path.{sym, ◌∙◌, subst}
use mathlib.Core.List.{List}
use Prim.Native.Nat.{ℕ}
use lib.IntN.{ℤ}
use Rattle.refusals.specs.Refusals.{First}
use Rattle.refusals.proofs.Laws.{one_answer}
use Rattle.messages.specs.declared.types.Message.{Message}
use Rattle.book.specs.declared.types.Book.{Book}
use Rattle.book.specs.Refusals.{table}
use Rattle.book.specs.Step.{step, fresh}
use Rattle.demands.specs.Runs.{after}
use Rattle.demands.specs.One.{DemandOne, FreshRuns}
use Rattle.demands.proofs.Answers.{accepted-none, none-accepted, refused-first, first-refused, unchanged}
use Rattle.demands.proofs.Unsound.{unsound-one, one-unsound, sound-other}
use Rattle.demands.proofs.Soundness.{sound-kept, run_sound, fresh-sound}

pub demand-one : (b : Book) (m : Message) (mwhs : List ℕ) (prices : List ℤ) → DemandOne b m mwhs prices
demand-one b m ms ps =
    record {
      fixed = one_answer (step b m ms ps);
      accepted = (accepted-none b m ms ps, none-accepted b m ms ps);
      refused = λ n h. (λ e. subst (λ (k : ℕ). First k (table b m ms ps)) e (refused-first b m ms ps (λ z. h (sym e ∙ z))), first-refused b m ms ps n);
      unsound = (one-unsound b m ms ps, unsound-one b m ms ps);
      refusal = unchanged b m ms ps;
      kept = sound-kept b m ms ps;
    }

pub demand-one-fresh : (support : ℤ) → FreshRuns support
demand-one-fresh z =
    record {
      begins = fresh-sound z;
      stays = λ xs. run_sound (fresh z).book xs (fresh-sound z);
      unrefused = λ xs x h. sound-other (after (fresh z).book xs) x.message x.mwhs x.prices h (run_sound (fresh z).book xs (fresh-sound z));
    }
