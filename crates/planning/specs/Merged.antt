-- 02, order 7: 'Two points of a kind 2 or 3 group at one price equal a single point of their summed MWh, provided the sum is within a point's limit'. The theorem is merged-points, proofs/Merged.antt.
-- Assumes nothing.
use Rattle.std.specs.Prelude.{◌≡◌, true, List, ◌∷◌, ◌++◌, ℕ, ◌+◌, ◌≤◌, ℤ, length}
use Rattle.amounts.specs.Limits.{is_point_mwh}
use Rattle.bids.specs.Bids.{bid_mwh, bid_requirement}
use Rattle.bids.specs.Joining.{is_export}
use Rattle.messages.specs.declared.types.Opening.{Opening}
use Rattle.messages.specs.declared.types.Message.TheVariants.{Open, Revise}
use Rattle.book.specs.declared.types.Book.{Book}
use Rattle.book.specs.Step.{step}
use Rattle.planning.specs.Points.{Point, point, mwhs_of, prices_of}

-- the points `two` and `one` are the same but for two points at one price in the one, and their summed MWh at that price in the other
pub record Merges (two one : List Point) : Type 0 where
  pub price : ℤ
  pub mwh : ℕ
  pub more : ℕ
  pub before : List Point
  pub middle : List Point
  pub after : List Point
  pub left : List Point
  pub right : List Point
  -- 'Two points .. at one price', wherever they stand
  pub two_points : two ≡ before ++ (point mwh price ∷ (middle ++ (point more price ∷ after)))
  -- 'a single point of their summed MWh', wherever it stands among the others
  pub one_point : one ≡ left ++ (point (mwh + more) price ∷ right)
  pub others : left ++ right ≡ before ++ (middle ++ after)
  -- 'provided the sum is within a point's limit'
  pub limit : is_point_mwh (mwh + more) ≡ true

module _ (o : Opening) (two one : List Point) where
  -- 'of a kind 2 or 3 group'
  abbrev pub Group : Type 0
  Group = is_export o.key.kind ≡ true

  -- the longer list is one that can be sent (01: '1 to 64' points)
  abbrev pub Sendable : Type 0
  Sendable = length two ≤ 64

  pub record Merged : Type 0 where
    -- 'equal a single point': the same bid MWh and requirement
    pub mwh : Group → Merges two one → bid_mwh o.key.kind two ≡ bid_mwh o.key.kind one
    pub requirement : Group → Merges two one
        → bid_requirement o.key.kind two o.differential o.exempt ≡ bid_requirement o.key.kind one o.differential o.exempt
    -- and so the same answer and next book of an open and of a revise, accepted or refused, in any book
    pub opened : Group → Merges two one → Sendable → (b : Book) → step b (Open o) (mwhs_of two) (prices_of two) ≡ step b (Open o) (mwhs_of one) (prices_of one)
    pub revised : Group → Merges two one → Sendable → (b : Book) → step b (Revise o) (mwhs_of two) (prices_of two) ≡ step b (Revise o) (mwhs_of one) (prices_of one)
