-- Document 01, 'Turned away, and why': rows 5 to 8 as they concern the points and the differential of a bid.
-- Assumes nothing.
use Rattle.std.specs.Prelude.{◌≡◌, true, ◌≤◌, not, ◌&&◌, List, [], ◌∷◌, ◌++◌, ℕ, eqb, ℤ, length}
use Rattle.amounts.specs.Limits.{between, is_point_mwh, is_price}
use Rattle.amounts.specs.Lists.{every}
use Rattle.refusals.specs.Refusals.{Row, row}
use Rattle.kinds.specs.Kinds.{rules_of, has_one_curve, differential_fits}

-- 5 'point count out of range or lists unequal', 6 'a quantity out of range', 7 'a price out of range'
unfoldable pub point_rows : List ℕ → List ℤ → List Row
point_rows mwhs prices =
    row 5 (not (between 1 64 (length mwhs) && eqb (length mwhs) (length prices)))
    ∷ row 6 (not (every is_point_mwh mwhs))
    ∷ row 7 (not (every is_price prices))
    ∷ []

-- two lists that no row refuses: proofs/Curves.antt shows that they are (fit)
pub record Fit (ms : List ℕ) (ps : List ℤ) : Type 0 where
  pub some : 1 ≤ length ms
  pub few : length ms ≤ 64
  pub equal : length ms ≡ length ps
  pub mwhs : every is_point_mwh ms ≡ true
  pub prices : every is_price ps ≡ true

-- of the bid of an open or a revise: 5 to 8, and 5 also of a kind that bids by four curves (02, order 3) or by two sides (02, order 6)
unfoldable pub bid_rows : ℕ → List ℕ → List ℤ → ℕ → List Row
bid_rows kind mwhs prices differential = row 5 (not (has_one_curve (rules_of kind))) ∷ (point_rows mwhs prices ++ (row 8 (not (differential_fits (rules_of kind) differential)) ∷ []))
