-- What the entries of stages 2 to 4 answer, for all inputs: the first row that applies, else the amount of document 01's formula.
-- Assumes nothing.
use Rattle.std.specs.Prelude.{Bool, ◌∷◌, ℕ, ℤ}
use Rattle.refusals.specs.Refusals.{Verdict, judge}
use Rattle.kinds.specs.Kinds.{kind_row}
use Rattle.deliveries.specs.Rows.{posted_rows, finished_rows, bill_rows}
use Rattle.formulas.specs.Stages.{posted_requirement, finished_requirement}

-- stage 2
unfoldable pub posted_verdict : ℕ → ℕ → Bool → ℕ → ℤ → ℤ → Verdict ℤ
posted_verdict kind differential exempt schedule price second =
    judge (kind_row kind ∷ posted_rows kind differential schedule price second) (posted_requirement kind differential exempt schedule price second)

-- stage 3
unfoldable pub finished_verdict : ℕ → Bool → ℕ → ℤ → ℤ → ℕ → ℤ → ℤ → Verdict ℤ
finished_verdict kind exempt schedule day_ahead posted_cents actual price second =
    judge (kind_row kind ∷ finished_rows kind schedule day_ahead posted_cents actual price second)
    (finished_requirement kind exempt schedule day_ahead posted_cents actual price second)

-- stage 4: 'Billed, every kind: the bill, signed'
unfoldable pub billed_verdict : ℤ → Verdict ℤ
billed_verdict amount = judge (bill_rows amount) amount
