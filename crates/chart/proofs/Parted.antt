-- A chart has one group for each month, day type and hour, and some hour for each group, where one computed test says so.
use mathlib.Core.Path.{◌≡◌, refl}
use mathlib.Core.Bool.{Bool, true, false, ◌&&◌}
use mathlib.Core.List.{List, [], ◌∷◌}
use Prim.Native.Nat.{ℕ, ◌-◌, ◌≤◌}
use native.Mathlib.Omega.{arith}
use Rattle.std.proofs.lemmas.Bool.{and_parts}
use Rattle.std.proofs.lemmas.Bool.Decides.{nat_tests}
use lib.Dec.{leb, eqb}
use lib.ListN.{get_or}
use Rattle.chart.specs.Groups.{Span, ◌to◌, Row, row, groups_at, group_in, day_number, time_in_range, Hour, Parted}
use Rattle.chart.specs.declared.DayType.{DayType}
use Rattle.chart.specs.declared.DayType.TheVariants.{Weekday, WeekendOrHoliday}
use Rattle.chart.proofs.Ranges.{every, at}

-- what stands in the ranges of a time
pub record Within (m d h : ℕ) : Type 0 where
  pub month-first : 1 ≤ m
  pub month-last : m ≤ 12
  pub day-last : d ≤ 1
  pub hour-last : h ≤ 23

pub within : (m d h : ℕ) → time_in_range m d h ≡ true → Within m d h
within m d h e = grind (arith, nat_tests)

pub in_day_type : (day : DayType) → leb (day_number day) 1 ≡ true
in_day_type Weekday = refl
in_day_type WeekendOrHoliday = refl

pub day-last : (day : DayType) → day_number day ≤ 1
day-last Weekday = omega arith
day-last WeekendOrHoliday = omega arith

pub no_day_type : (m d h : ℕ) → leb d 1 ≡ false → time_in_range m d h ≡ false
no_day_type m d h e = grind (arith, nat_tests)

-- a test of months, day types and hours, at every time
abbrev pub always : (ℕ → ℕ → ℕ → Bool) → Bool
always f = every (λ m. every (λ d. every (f m d) 0 24) 0 2) 1 12

pub at-time : (f : ℕ → ℕ → ℕ → Bool) → always f ≡ true → (m d h : ℕ) → time_in_range m d h ≡ true → f m d h ≡ true
at-time f e m d h t =
    let w = within m d h t in
    at (f m d) 0 24
    (at (λ d. every (f m d) 0 24) 0 2
    (at (λ m. every (λ d. every (f m d) 0 24) 0 2) 1 12 e m w.month-first (omega arith))
    d (omega arith) (omega arith))
    h (omega arith) (omega arith)

-- one group alone, from 1 to the last
abbrev pub alone : ℕ → List ℕ → Bool
alone last [] = false
alone last (g ∷ []) = leb 1 g && leb g last
alone last (g ∷ k ∷ gs) = false

alone-one : (last : ℕ) (gs : List ℕ) → alone last gs ≡ true → gs ≡ get_or gs 0 0 ∷ []
alone-one last [] e = grind (arith, nat_tests)
alone-one last (g ∷ []) e = refl
alone-one last (g ∷ k ∷ gs) e = grind (arith, nat_tests)

alone-numbered : (last : ℕ) (gs : List ℕ) → alone last gs ≡ true → (1 ≤ get_or gs 0 0) × (get_or gs 0 0 ≤ last)
alone-numbered last [] e = grind (arith, nat_tests)
alone-numbered last (g ∷ []) e = grind (arith, nat_tests)
alone-numbered last (g ∷ k ∷ gs) e = grind (arith, nat_tests)

abbrev pub this : ℕ → List ℕ → Bool
this g [] = false
this g (k ∷ []) = eqb k g
this g (k ∷ l ∷ gs) = false

this-only : (g : ℕ) (gs : List ℕ) → this g gs ≡ true → gs ≡ g ∷ []
this-only g [] e = grind (arith, nat_tests)
this-only g (k ∷ []) e = grind (arith, nat_tests)
this-only g (k ∷ l ∷ gs) e = grind (arith, nat_tests)

abbrev pub first : List Span → ℕ
first [] = 0
first (a to b ∷ spans) = a

-- the first month, day type and hour of a group's row
abbrev pub month_of : Row → ℕ
month_of (row g ms ds hs) = first ms

abbrev pub day_of : Row → ℕ
day_of (row g ms ds hs) = first ds

abbrev pub hour_of : Row → ℕ
hour_of (row g ms ds hs) = first hs

abbrev pub row_of : List Row → ℕ → Row
row_of chart g = get_or chart (g - 1) (row 0 [] [] [])

abbrev pub reached : List Row → ℕ → Row → Bool
reached chart g r = time_in_range (month_of r) (day_of r) (hour_of r) && this g (groups_at chart (month_of r) (day_of r) (hour_of r))

reached-hour : (chart : List Row) (g : ℕ) (r : Row) → reached chart g r ≡ true → Hour chart g
reached-hour chart g r e =
    let inside = time_in_range (month_of r) (day_of r) (hour_of r) in
    let found = groups_at chart (month_of r) (day_of r) (hour_of r) in
    let both = and_parts inside (this g found) e in
    record {
      month = month_of r;
      day_type = day_of r;
      hour = hour_of r;
      time = both.0;
      only = this-only g found both.1;
    }

-- the test: every time has one group from 1 to the last, and each of these is the group of its row's first hour
abbrev pub parts : ℕ → List Row → Bool
parts last chart = always (λ m d h. alone last (groups_at chart m d h)) && every (λ g. reached chart g (row_of chart g)) 1 last

pub parted : (last : ℕ) (chart : List Row) → parts last chart ≡ true → Parted last chart
unfolding group_in
parted last chart e =
    let times = always (λ m d h. alone last (groups_at chart m d h)) in
    let groups = every (λ g. reached chart g (row_of chart g)) 1 last in
    let both = and_parts times groups e in
    let single = at-time (λ m d h. alone last (groups_at chart m d h)) both.0 in
    record {
      one = λ m d h t. alone-one last (groups_at chart m d h) (single m d h t);
      numbered = λ m d h t. alone-numbered last (groups_at chart m d h) (single m d h t);
      some =
          λ g low high. reached-hour chart g (row_of chart g) (at (λ g. reached chart g (row_of chart g)) 1 last both.1 g low (omega arith));
    }
