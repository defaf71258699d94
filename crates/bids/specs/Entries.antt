-- What the entries of stage 1 answer, for all inputs: the first row that applies, else the bid of document 01's formulas.
-- Assumes nothing.
use Rattle.std.specs.Prelude.{◌≡◌, Bool, List, ◌∷◌, ℕ, ℤ, pos, Result, Ok, Err}
use Rattle.refusals.specs.declared.Refusal.{Refusal}
use Rattle.refusals.specs.Refusals.{number_of, Verdict, judge, None, First}
use Rattle.kinds.specs.Kinds.{kind_row}
use Rattle.refusals.specs.declared.Bid.{Bid}
use Rattle.bids.specs.Points.{curve, Exposure}
use Rattle.bids.specs.Rows.{point_rows, bid_rows}
use Rattle.bids.specs.Bids.{bid_mwh, bid_requirement}

-- stage 1: bid MWh and requirement of a group
unfoldable pub bid_verdict : ℕ → List ℕ → List ℤ → ℕ → Bool → Verdict Bid
bid_verdict kind mwhs prices differential exempt =
    judge (kind_row kind ∷ bid_rows kind mwhs prices differential)
    (record { mwh = bid_mwh kind (curve mwhs prices); cents = bid_requirement kind (curve mwhs prices) differential exempt })

-- the price exposure of a curve, as 01's sentence has it: r is a refusal by the first row that applies, or the one number that is the exposure
unfoldable pub Exposed : List ℕ → List ℤ → Result ℤ Refusal → Type 0
Exposed mwhs prices (Err e) = First (number_of e) (point_rows mwhs prices)
Exposed mwhs prices (Ok cents) = None (point_rows mwhs prices) × ((e : ℕ) × (cents ≡ pos e) × Exposure (curve mwhs prices) e)
