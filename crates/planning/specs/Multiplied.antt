-- 02, order 7: 'For kinds 1 to 4, multiplying every MWh by a whole number multiplies the bid requirement, where limits allow'. The theorem is multiplied-bid, proofs/Multiplied.antt.
-- Assumes nothing.
use Rattle.std.specs.Prelude.{◌≡◌, true, List, ℕ, ℤ, pos, ◌*ℤ◌}
use Rattle.amounts.specs.Limits.{between, is_point_mwh}
use Rattle.amounts.specs.Lists.{every}
use Rattle.refusals.specs.Refusals.{None}
use Rattle.kinds.specs.Kinds.{import, wheel}
use Rattle.bids.specs.Bids.{bid_requirement}
use Rattle.bids.specs.Rows.{bid_rows}
use Rattle.messages.specs.declared.types.Message.{Message}
use Rattle.messages.specs.declared.types.Opening.{Opening}
use Rattle.messages.specs.declared.types.Message.TheVariants.{Open, Revise}
use Rattle.book.specs.declared.types.Book.{Book}
use Rattle.demands.specs.Runs.{replied}
use Rattle.planning.specs.Points.{Point, mwhs_of, prices_of, multiplied}

-- the book b accepts the message with these points, and answers the requirement `cents`
pub record Answers (b : Book) (m : Message) (points : List Point) (cents : ℤ) : Type 0 where
  pub accepted : (replied b m (mwhs_of points) (prices_of points)).number ≡ 0
  pub requirement : (replied b m (mwhs_of points) (prices_of points)).requirement ≡ cents

module _ (o : Opening) (n : ℕ) (points : List Point) where
  -- 'For kinds 1 to 4'
  abbrev pub OneCurve : Type 0
  OneCurve = between import wheel o.key.kind ≡ true

  pub record Multiplied : Type 0 where
    -- 'multiplies the bid requirement', 0 times too
    pub requirement : OneCurve
        → bid_requirement o.key.kind (multiplied n points) o.differential o.exempt ≡ pos n *ℤ bid_requirement o.key.kind points o.differential o.exempt
    -- 'where limits allow': where each multiplied MWh is within a point's limit, the points are not refused for it (5 to 8)
    pub allowed : None (bid_rows o.key.kind (mwhs_of points) (prices_of points) o.differential) → every is_point_mwh (mwhs_of (multiplied n points)) ≡ true
        → None (bid_rows o.key.kind (mwhs_of (multiplied n points)) (prices_of (multiplied n points)) o.differential)
    -- so an open and a revise answer so many times as much, in whatever books the two are accepted
    pub opened : OneCurve → {b c : Book} {few many : ℤ} → Answers b (Open o) points few → Answers c (Open o) (multiplied n points) many → many ≡ pos n *ℤ few
    pub revised : OneCurve → {b c : Book} {few many : ℤ} → Answers b (Revise o) points few → Answers c (Revise o) (multiplied n points) many → many ≡ pos n *ℤ few
