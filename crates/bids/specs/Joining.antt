-- Demand 3, its joining clause: the points of two groups of kind 2, or of two of kind 3, as one list of points.
-- Assumes nothing.
use Rattle.std.specs.Prelude.{◌≡◌, Bool, List, ◌++◌, ℕ, ℤ, ◌+ℤ◌, ◌≤ℤ◌}
use Rattle.amounts.specs.Limits.{between}
use Rattle.refusals.specs.Refusals.{None}
use Rattle.kinds.specs.Kinds.{export, hour_ahead}
use Rattle.bids.specs.Points.{curve}
use Rattle.bids.specs.Rows.{bid_rows}
use Rattle.bids.specs.Bids.{bid_requirement}

-- 01, The book and its kinds: '2 Day-Ahead export, 3 Hour-Ahead export'
abbrev pub is_export : ℕ → Bool
is_export kind = between export hour_ahead kind

-- the requirement of the joined points commutes, is never less than either alone, never more than both added; and the joined points are not refused
pub record Joined (kind : ℕ) (m₁ m₂ : List ℕ) (p₁ p₂ : List ℤ) (differential : ℕ) (exempt : Bool) : Type 0 where
  pub accepted : None (bid_rows kind (m₁ ++ m₂) (p₁ ++ p₂) differential)
  pub commutes : bid_requirement kind (curve (m₁ ++ m₂) (p₁ ++ p₂)) differential exempt ≡ bid_requirement kind (curve (m₂ ++ m₁) (p₂ ++ p₁)) differential exempt
  pub left : bid_requirement kind (curve m₁ p₁) differential exempt ≤ℤ bid_requirement kind (curve (m₁ ++ m₂) (p₁ ++ p₂)) differential exempt
  pub right : bid_requirement kind (curve m₂ p₂) differential exempt ≤ℤ bid_requirement kind (curve (m₁ ++ m₂) (p₁ ++ p₂)) differential exempt
  pub together : bid_requirement kind (curve (m₁ ++ m₂) (p₁ ++ p₂)) differential exempt ≤ℤ (bid_requirement kind (curve m₁ p₁) differential exempt +ℤ bid_requirement kind (curve m₂ p₂) differential exempt)
