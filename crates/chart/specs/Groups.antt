-- The groups of the two editions of the chart, each a table of months, day types and hours.
use Rattle.std.specs.Prelude.{◌≡◌, Bool, true, false, cond, ◌&&◌, ◌||◌, List, [], ◌∷◌, ℕ, ◌≤◌, leb, eqb, get_or}
use Rattle.chart.specs.declared.DayType.{DayType}
use Rattle.chart.specs.declared.DayType.TheVariants.{Weekday, WeekendOrHoliday}
use Rattle.chart.specs.declared.groups.Season.{Season}
use Rattle.chart.specs.declared.groups.Season.TheVariants.{Summer, Winter, RestOfYear}

infixl 70 ◌to◌
-- whole numbers from the first to the last, both included
pub data Span : Type 0 where
  ◌to◌ : ℕ → ℕ → Span

unfoldable pub has : List Span → ℕ → Bool
has [] n = false
has (first to last ∷ spans) n = leb first n && leb n last || has spans n

-- 01, the chart: "Summer is May to August .., winter December to February .., the rest"; 000, slide "External Suppliers - Bidding Requirements", the seasons
abbrev pub summer : List Span
summer = 5 to 8 ∷ []

abbrev pub winter : List Span
winter = 12 to 12 ∷ 1 to 2 ∷ []

abbrev pub rest_of_year : List Span
rest_of_year = 3 to 4 ∷ 9 to 11 ∷ []

-- 01, the chart: "day type (0 weekday, 1 weekend or holiday)"
abbrev pub weekday : List Span
weekday = 0 to 0 ∷ []

abbrev pub weekend_or_holiday : List Span
weekend_or_holiday = 1 to 1 ∷ []

-- the number of a day type
abbrev pub day_number : DayType → ℕ
day_number Weekday = 0
day_number WeekendOrHoliday = 1

abbrev pub any_day : List Span
any_day = 0 to 1 ∷ []

-- 01, the chart: "night 23-6 on any day"
abbrev pub night : List Span
night = 23 to 23 ∷ 0 to 6 ∷ []

-- a row of a chart: its group, months, day types and hours beginning
pub data Row : Type 0 where
  row : ℕ → List Span → List Span → List Span → Row

-- 01, the chart, "18 groups .."; 001, 26.4.2.2.4, the groups IPD-1 to IPD-18
unfoldable pub eighteen : List Row
eighteen =
    row 1 summer weekday (7 to 10 ∷ []) ∷
    row 2 summer weekday (11 to 14 ∷ []) ∷
    row 3 summer weekday (15 to 18 ∷ []) ∷
    row 4 summer weekday (19 to 22 ∷ []) ∷
    row 5 summer weekend_or_holiday (7 to 22 ∷ []) ∷
    row 6 summer any_day night ∷
    row 7 winter weekday (7 to 10 ∷ []) ∷
    row 8 winter weekday (11 to 14 ∷ []) ∷
    row 9 winter weekday (15 to 18 ∷ []) ∷
    row 10 winter weekday (19 to 22 ∷ []) ∷
    row 11 winter weekend_or_holiday (7 to 22 ∷ []) ∷
    row 12 winter any_day night ∷
    row 13 rest_of_year weekday (7 to 10 ∷ []) ∷
    row 14 rest_of_year weekday (11 to 14 ∷ []) ∷
    row 15 rest_of_year weekday (15 to 18 ∷ []) ∷
    row 16 rest_of_year weekday (19 to 22 ∷ []) ∷
    row 17 rest_of_year weekend_or_holiday (7 to 22 ∷ []) ∷
    row 18 rest_of_year any_day night ∷
    []

-- 02, order 5: "The filing in source document 001 replaces the 18 import groups with 33, with summer weekday hour 18 alone in one group and winter night taking in hour 7"; 001, 26.4.2.2.4, Import, the groups IPD-1 to IPD-33
unfoldable pub thirty_three : List Row
thirty_three =
    row 1 summer weekday (7 to 9 ∷ []) ∷
    row 2 summer weekday (10 to 12 ∷ []) ∷
    row 3 summer weekday (13 to 17 ∷ []) ∷
    row 4 summer weekday (18 to 18 ∷ []) ∷
    row 5 summer weekday (19 to 20 ∷ []) ∷
    row 6 summer weekday (21 to 22 ∷ []) ∷
    row 7 summer weekend_or_holiday (7 to 8 ∷ []) ∷
    row 8 summer weekend_or_holiday (9 to 12 ∷ []) ∷
    row 9 summer weekend_or_holiday (13 to 14 ∷ []) ∷
    row 10 summer weekend_or_holiday (15 to 16 ∷ []) ∷
    row 11 summer weekend_or_holiday (17 to 18 ∷ []) ∷
    row 12 summer weekend_or_holiday (19 to 22 ∷ []) ∷
    row 13 summer any_day (0 to 0 ∷ 23 to 23 ∷ []) ∷
    row 14 summer any_day (1 to 6 ∷ []) ∷
    row 15 winter weekday (8 to 9 ∷ []) ∷
    row 16 winter weekday (10 to 12 ∷ []) ∷
    row 17 winter weekday (13 to 15 ∷ []) ∷
    row 18 winter weekday (16 to 17 ∷ []) ∷
    row 19 winter weekday (18 to 20 ∷ []) ∷
    row 20 winter weekday (21 to 22 ∷ []) ∷
    row 21 winter weekend_or_holiday (16 to 20 ∷ []) ∷
    -- "Other HB08-22"
    row 22 winter weekend_or_holiday (8 to 15 ∷ 21 to 22 ∷ []) ∷
    row 23 winter any_day (0 to 1 ∷ 23 to 23 ∷ []) ∷
    row 24 winter any_day (2 to 5 ∷ []) ∷
    row 25 winter any_day (6 to 7 ∷ []) ∷
    row 26 rest_of_year weekday (7 to 10 ∷ []) ∷
    row 27 rest_of_year weekday (11 to 14 ∷ []) ∷
    row 28 rest_of_year weekday (15 to 19 ∷ []) ∷
    row 29 rest_of_year weekday (20 to 22 ∷ []) ∷
    row 30 rest_of_year weekend_or_holiday (17 to 20 ∷ []) ∷
    -- "Other HB07-22"
    row 31 rest_of_year weekend_or_holiday (7 to 16 ∷ 21 to 22 ∷ []) ∷
    row 32 rest_of_year any_day (0 to 0 ∷ 6 to 6 ∷ 23 to 23 ∷ []) ∷
    row 33 rest_of_year any_day (1 to 5 ∷ []) ∷
    []

abbrev pub keep : Bool → ℕ → List ℕ → List ℕ
keep true group groups = group ∷ groups
keep false group groups = groups

-- the groups of all rows of a chart that have this month, day type and hour
unfoldable pub groups_at : List Row → ℕ → ℕ → ℕ → List ℕ
groups_at [] month day_type hour = []
groups_at (row group months day_types hours ∷ rows) month day_type hour =
    keep (has months month && has day_types day_type && has hours hour) group (groups_at rows month day_type hour)

-- the group of a month, day type and hour
unfoldable pub group_in : List Row → ℕ → ℕ → ℕ → ℕ
group_in chart month day_type hour = get_or (groups_at chart month day_type hour) 0 0

-- 01, the chart: "month 1 to 12, day type (0 weekday, 1 weekend or holiday) and hour 0 to 23"
abbrev pub time_in_range : ℕ → ℕ → ℕ → Bool
time_in_range month day_type hour = leb 1 month && leb month 12 && leb day_type 1 && leb hour 23

-- a time that has this group and no other
pub record Hour (chart : List Row) (group : ℕ) : Type 0 where
  pub month : ℕ
  pub day_type : ℕ
  pub hour : ℕ
  pub time : time_in_range month day_type hour ≡ true
  pub only : groups_at chart month day_type hour ≡ group ∷ []

-- every month, day type and hour has exactly one group, which is from 1 to the last, and every such group has some hour
pub record Parted (last : ℕ) (chart : List Row) : Type 0 where
  pub one : (month day_type hour : ℕ) → time_in_range month day_type hour ≡ true → groups_at chart month day_type hour ≡ group_in chart month day_type hour ∷ []
  pub numbered : (month day_type hour : ℕ) → time_in_range month day_type hour ≡ true → (1 ≤ group_in chart month day_type hour) × (group_in chart month day_type hour ≤ last)
  pub some : (group : ℕ) → 1 ≤ group → group ≤ last → Hour chart group

-- 02, order 5: "Show once over both charts that every month, day type and hour has exactly one group and every group some hour"
pub record BothCharts : Type 0 where
  pub older : Parted 18 eighteen
  pub newer : Parted 33 thirty_three

-- 01, the chart: "Summer is May to August .., winter December to February .., the rest": a month's season, from 0
unfoldable pub season_of : ℕ → ℕ
season_of month = cond (has summer month) 0 (cond (has winter month) 1 2)

-- a season's place in that order
abbrev pub place_of : Season → ℕ
place_of Summer = 0
place_of Winter = 1
place_of RestOfYear = 2

-- a month of each season
abbrev pub month_in : ℕ → ℕ
month_in season = cond (eqb season 0) 7 (cond (eqb season 1) 1 10)

-- 01, the chart: "In a season: hours beginning 7-10, 11-14, 15-18, 19-22 on ordinary weekdays; weekend or holiday 7-22; night 23-6 on any day", from 0
unfoldable pub period_of : ℕ → ℕ → ℕ
period_of day_type hour =
    cond (has night hour) 5
    (cond (has weekend_or_holiday day_type) 4
    (cond (has (7 to 10 ∷ []) hour) 0 (cond (has (11 to 14 ∷ []) hour) 1 (cond (has (15 to 18 ∷ []) hour) 2 3))))
