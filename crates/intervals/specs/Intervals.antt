-- 02, order 3: 'Hour-Ahead export bids with four interval curves, points of one interval adding up. An interval has 0 to 64 points; the record keeps its four MWh sums.'
-- Assumes nothing.
use Rattle.std.specs.Prelude.{Bool, not, ◌&&◌, List, [], ◌∷◌, ℕ, ◌+◌, leb, eqb, ℤ, length, take, drop}
use Rattle.amounts.specs.Limits.{is_point_mwh, is_quantity, is_price}
use Rattle.amounts.specs.Lists.{sum, every}
use Rattle.refusals.specs.Refusals.{Row, row, Verdict, refuse, accept, judge}
use Rattle.kinds.specs.Kinds.{rules_of, kind_row}
pub use Rattle.intervals.specs.declared.types.Counts.{Counts}
pub use Rattle.intervals.specs.declared.types.Intervals.{Intervals}

-- ---- four curves: the points stand one interval after another in the two lent lists

-- how many points stand before each interval's, and in all
abbrev pub after_first : Counts → ℕ
after_first c = c.first

abbrev pub after_second : Counts → ℕ
after_second c = after_first c + c.second

abbrev pub after_third : Counts → ℕ
after_third c = after_second c + c.third

abbrev pub points : Counts → ℕ
points c = after_third c + c.fourth

-- 'points of one interval adding up': the MWh of `count` points, after the first `from`
unfoldable pub interval_mwh : ℕ → ℕ → List ℕ → ℕ
interval_mwh from count mwhs = sum ◌+◌ 0 (λ m. m) (take count (drop from mwhs))

-- 'the record keeps its four MWh sums'
abbrev pub intervals_of : Counts → List ℕ → Intervals
intervals_of c mwhs =
    record {
      first = interval_mwh 0 c.first mwhs;
      second = interval_mwh (after_first c) c.second mwhs;
      third = interval_mwh (after_second c) c.third mwhs;
      fourth = interval_mwh (after_third c) c.fourth mwhs;
    }

-- ---- what turns four curves away

-- 'An interval has 0 to 64 points'
abbrev pub short : Counts → Bool
short c = leb c.first 64 && leb c.second 64 && leb c.third 64 && leb c.fourth 64

-- and not 'all four empty'
abbrev pub counts_fit : Counts → Bool
counts_fit c = short c && leb 1 (points c)

-- 5 'an interval too long, all four empty', lists that have not so many points, and a kind that bids by one curve; 6 and 7 as of one curve
unfoldable pub curves_rows : ℕ → Counts → List ℕ → List ℤ → List Row
curves_rows kind c mwhs prices =
    row 5 (not ((rules_of kind).intervals && counts_fit c && eqb (length mwhs) (points c) && eqb (length prices) (points c)))
    ∷ row 6 (not (every is_point_mwh mwhs))
    ∷ row 7 (not (every is_price prices))
    ∷ []

-- the four sums of an open or a revise
unfoldable pub curves_verdict : ℕ → Counts → List ℕ → List ℤ → Verdict Intervals
curves_verdict kind c mwhs prices = judge (kind_row kind ∷ curves_rows kind c mwhs prices) (intervals_of c mwhs)

-- ---- the answer

abbrev pub no_intervals : Intervals
no_intervals = record { first = 0; second = 0; third = 0; fourth = 0 }

-- a refusal answers 0 throughout
abbrev pub intervals_in : Verdict Intervals → Intervals
intervals_in (accept sums) = sums
intervals_in (refuse n) = no_intervals

-- ---- the four sums of a record

-- 64 points of 10,000 MWh: a sum is a quantity of 01, 0 to 640,000
abbrev pub intervals_fit : Intervals → Bool
intervals_fit s = is_quantity s.first && is_quantity s.second && is_quantity s.third && is_quantity s.fourth

-- no sum above 0
abbrev pub is_none : Intervals → Bool
is_none s = eqb s.first 0 && eqb s.second 0 && eqb s.third 0 && eqb s.fourth 0
