-- 02, order 6: a virtual bid's two sides, load and supply, of one zone and hour: what turns them away by their own numbers, and what they require while bid and once posted.
-- Assumes nothing.
use Rattle.std.specs.Prelude.{◌≡◌, Bool, cond, not, ◌&&◌, List, [], ◌∷◌, ℕ, ◌-◌, ◌*◌, ◌≤◌, leb, ltb, eqb, ℤ, pos, ◌≤ℤ◌}
use Rattle.amounts.specs.Amount.{max_of}
use Rattle.amounts.specs.Limits.{is_differential}
use Rattle.refusals.specs.Refusals.{Row, row, Verdict, judge}
pub use Rattle.virtuals.specs.declared.Side.{Side}
-- ---- what a record keeps of the supply side; the load side's stand in the fields that other kinds have too

pub use Rattle.virtuals.specs.declared.Supply.{Supply}

abbrev pub no_supply : Supply
no_supply = record { mwh = 0; differential = 0; schedule = 0 }

abbrev pub is_no_supply : Supply → Bool
is_no_supply s = eqb s.mwh 0 && eqb s.differential 0 && eqb s.schedule 0

-- 'Each side's MWh is at most 10,000'
abbrev pub is_side_mwh : ℕ → Bool
is_side_mwh mwh = leb mwh 10000

-- a supply side that is kept: in range, and 'posted sides can't exceed bid sides'
abbrev pub supply_fits : Supply → Bool
supply_fits s = is_side_mwh s.mwh && is_differential s.differential && leb s.schedule s.mwh

-- 6 'a quantity out of range', of either side; 8 'differential out of range', of either
unfoldable pub side_rows : Side → Side → List Row
side_rows load supply =
    row 6 (not (is_side_mwh load.mwh && is_side_mwh supply.mwh))
    ∷ row 8 (not (is_differential load.differential && is_differential supply.differential))
    ∷ []

-- of a post, which carries MWh alone: 6
unfoldable pub mwh_rows : ℕ → ℕ → List Row
mwh_rows load supply = row 6 (not (is_side_mwh load && is_side_mwh supply)) ∷ []

-- 'while bid, the requirement is the greater of load MWh x load differential and supply MWh x supply differential' (001, 26.4.2.6: 'until such time as those Bids have been evaluated by SCUC, only the greater of ..')
unfoldable pub virtual_bid : Side → Side → ℤ
virtual_bid load supply = max_of (pos (load.mwh * load.differential)) (pos (supply.mwh * supply.differential))

-- 'Once posted it is the net MWh times the differential of the net side, 0 when they cancel' (001, 26.4.2.6: 'only the credit requirement for the net position of the accepted Bids'); the MWh are those posted
unfoldable pub virtual_posted : Side → Side → ℤ
virtual_posted load supply =
    cond (ltb supply.mwh load.mwh) (pos ((load.mwh - supply.mwh) * load.differential))
    (cond (ltb load.mwh supply.mwh) (pos ((supply.mwh - load.mwh) * supply.differential)) (pos 0))

-- what the two entries answer, for all inputs
unfoldable pub bid_verdict : Side → Side → Verdict ℤ
bid_verdict load supply = judge (side_rows load supply) (virtual_bid load supply)

unfoldable pub posted_verdict : Side → Side → Verdict ℤ
posted_verdict load supply = judge (side_rows load supply) (virtual_posted load supply)

-- 'posted sides can't exceed bid sides': what is posted of a side, at the differential that it was bid with
pub record PostedOf (bid posted : Side) : Type 0 where
  pub mwh : posted.mwh ≤ bid.mwh
  pub differential : posted.differential ≡ bid.differential

-- for planners: posting never asks for more than the bid did
abbrev pub PostingAsksNoMore : Type 0
PostingAsksNoMore =
    (load supply posted_load posted_supply : Side) → PostedOf load posted_load → PostedOf supply posted_supply → virtual_posted posted_load posted_supply ≤ℤ virtual_bid load supply
