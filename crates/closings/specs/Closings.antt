-- 02, order 3: 'A close message names an hour and lists paths with four interval prices each'; what a bid requires then, and what turns a close away by itself.
-- Assumes nothing.
use Rattle.std.specs.Prelude.{Bool, true, not, ◌&&◌, cond, List, [], ◌∷◌, ℕ, ◌+◌, ◌*◌, ◌/◌, eqb, ℤ, pos, ◌+ℤ◌, ◌*ℤ◌, length, get_or}
use Rattle.amounts.specs.Amount.{up}
use Rattle.amounts.specs.Limits.{is_price}
use Rattle.amounts.specs.Lists.{every}
use Rattle.distinct.specs.Numbers.{stands_in}
use Rattle.refusals.specs.Refusals.{Row, row, Verdict, judge}
use Rattle.kinds.specs.Kinds.{quarter_hour, rules_of, is_path}
use Rattle.keys.specs.Keys.{is_hour}
use Rattle.intervals.specs.declared.types.Intervals.{Intervals}
use Rattle.intervals.specs.Intervals.{intervals_fit}
pub use Rattle.closings.specs.declared.types.Quote.{Quote}

-- ---- what is listed

-- how many paths stand before this one; all of them where it is not listed
unfoldable pub place_of : ℕ → List ℕ → ℕ
place_of path [] = 0
place_of path (p ∷ ps) = cond (eqb path p) 0 (place_of path ps + 1)

-- the four prices of the path at a place, 0 past the end
abbrev pub quote_at : ℕ → List ℤ → Quote
quote_at place prices =
    record {
      first = get_or prices (place * 4) (pos 0);
      second = get_or prices (place * 4 + 1) (pos 0);
      third = get_or prices (place * 4 + 2) (pos 0);
      fourth = get_or prices (place * 4 + 3) (pos 0);
    }

-- no 'path listed twice'
unfoldable pub each_once : List ℕ → Bool
each_once [] = true
each_once (p ∷ ps) = not (stands_in p ps) && each_once ps

-- ---- 'A bid's requirement is the sum over intervals of price x MWh x a quarter hour, not below 0, rounded up to a cent once'

-- the sum over intervals of price x MWh, four times what a quarter hour of each comes to
unfoldable pub hour_cents : Intervals → Quote → ℤ
hour_cents s q = pos s.first *ℤ q.first +ℤ pos s.second *ℤ q.second +ℤ pos s.third *ℤ q.third +ℤ pos s.fourth *ℤ q.fourth

-- a quarter of it, not below 0, rounded up
unfoldable pub quarter_up : ℤ → ℤ
quarter_up cents = pos ((up cents + 3) / 4)

unfoldable pub closed_requirement : Intervals → Quote → ℤ
closed_requirement s q = quarter_up (hour_cents s q)

-- each of the four is a price
abbrev pub prices_fit : Quote → Bool
prices_fit q = is_price q.first && is_price q.second && is_price q.third && is_price q.fourth

-- the entry: 6 of the sums, 7 of the prices
unfoldable pub closed_rows : Intervals → Quote → List Row
closed_rows s q =
    row 6 (not (intervals_fit s)) ∷ row 7 (not (prices_fit q)) ∷ []

unfoldable pub closed_verdict : Intervals → Quote → Verdict ℤ
closed_verdict s q = judge (closed_rows s q) (closed_requirement s q)

-- ---- what turns a close away by itself: 3 of any listed path, 4, 5 'a path listed twice', or prices that are not four a path, 7
unfoldable pub close_rows : ℕ → List ℕ → List ℤ → List Row
close_rows hour paths prices =
    row 3 (not (every (is_path (rules_of quarter_hour)) paths))
    ∷ row 4 (not (is_hour hour))
    ∷ row 5 (not (each_once paths && eqb (length prices) (length paths * 4)))
    ∷ row 7 (not (every is_price prices))
    ∷ []
