-- For the code's own steps alone: a close that nothing has turned away by itself, over the places and what a book keeps beside them. Nothing here is the paper's: crate `book`,
-- proofs/Closed.antt, shows that it is the step.
-- Assumes nothing.
use Rattle.std.specs.Prelude.{Bool, true, ◌&&◌, cond, List, map, ℕ, ◌+◌, ◌≤◌, ℤ, pos, ◌+ℤ◌, length}
use Rattle.amounts.specs.Amount.{Range}
use Rattle.distinct.specs.Numbers.{stands_in}
use Rattle.refusals.specs.declared.Answer.TheVariants.{Accepted, Refused, Removed}
use Rattle.records.specs.declared.types.Record.{Record}
use Rattle.records.specs.Records.{is_pending}
use Rattle.credit.specs.declared.types.Account.{Account}
use Rattle.credit.specs.Account.{totalled}
use Rattle.batches.specs.Batches.{pending_paths, among, unmatched, brings, batch_cents, exceeds, batched}
pub use Rattle.batches.specs.declared.types.Batch.{Batch}
pub use Rattle.batches.specs.declared.types.Closed.{Closed}

-- ---- the walk

abbrev pub nothing : Batch
nothing = record { count = 0; listed = true; cents = pos 0 }

-- one place more
unfoldable pub more : ℕ → List ℕ → List ℤ → Batch → Record → Batch
more hour paths prices s r =
    record {
      count = cond (is_pending hour r) (s.count + 1) s.count;
      listed = cond (is_pending hour r) (stands_in r.key.path paths && s.listed) s.listed;
      cents = s.cents +ℤ brings hour paths prices r;
    }

-- what all places bring
abbrev pub seen : ℕ → List ℕ → List ℤ → List Record → Batch
seen hour paths prices places =
    record {
      count = length (pending_paths hour places);
      listed = among (pending_paths hour places) paths;
      cents = batch_cents hour paths prices places;
    }

-- at most 255 requirements of stage 2, so that with one more no sum leaves an i64
pub record Light (s : Batch) : Type 0 where
  pub count : s.count ≤ 255
  pub cents : Range 0 163200000000000 s.cents

-- ---- the end

unfoldable pub refused_by : Account → List Record → Closed
refused_by account places = record { records = places; account = account; answer = Refused 11 account.held account.owed }

unfoldable pub settled_by : Bool → Account → ℕ → List ℕ → List ℤ → List Record → Closed
settled_by too_much account hour paths prices places =
    record {
      records = map (batched too_much hour paths prices) places;
      account = cond too_much account (totalled account (account.held +ℤ batch_cents hour paths prices places) account.owed);
      answer =
          cond too_much (Removed account.held account.owed)
          (Accepted (batch_cents hour paths prices places) (account.held +ℤ batch_cents hour paths prices places) account.owed);
    }

unfoldable pub closed_by : Account → ℕ → List ℕ → List ℤ → List Record → Closed
closed_by account hour paths prices places =
    cond (unmatched hour paths places) (refused_by account places)
    (settled_by (exceeds account.support account.held (batch_cents hour paths prices places)) account hour paths prices places)
