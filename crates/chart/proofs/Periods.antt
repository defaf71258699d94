-- The period of an hour: computed at each of the few hours of an arm.
use mathlib.Core.Path.{◌≡◌, refl, sym}
use mathlib.Core.Bool.{true}
use Prim.Native.Nat.{ℕ, ◌+◌, ◌≤◌, ◌<◌}
use native.Mathlib.Omega.{arith}
use lib.Dec.{eqb}
use Rattle.chart.specs.Groups.{has, day_number, period_of}
use Rattle.chart.specs.declared.DayType.{DayType}
use Rattle.chart.specs.declared.DayType.TheVariants.{Weekday, WeekendOrHoliday}
use Rattle.chart.proofs.Ranges.{every, equal}

on : (p d first count : ℕ) → every (λ h. eqb p (period_of d h)) first count ≡ true → (h : ℕ) → first ≤ h → h < first + count → period_of d h ≡ p
on p d first count e h low high = sym (equal (λ h. p) (period_of d) first count e h low high)

from-7 : every (λ h. eqb 0 (period_of 0 h)) 7 4 ≡ true
unfolding period_of has
from-7 = refl

from-11 : every (λ h. eqb 1 (period_of 0 h)) 11 4 ≡ true
unfolding period_of has
from-11 = refl

from-15 : every (λ h. eqb 2 (period_of 0 h)) 15 4 ≡ true
unfolding period_of has
from-15 = refl

from-19 : every (λ h. eqb 3 (period_of 0 h)) 19 4 ≡ true
unfolding period_of has
from-19 = refl

before-7 : every (λ h. eqb 5 (period_of 0 h)) 0 7 ≡ true
unfolding period_of has
before-7 = refl

from-23 : every (λ h. eqb 5 (period_of 0 h)) 23 1 ≡ true
unfolding period_of has
from-23 = refl

holiday : every (λ h. eqb 4 (period_of 1 h)) 7 16 ≡ true
unfolding period_of has
holiday = refl

holiday-before-7 : every (λ h. eqb 5 (period_of 1 h)) 0 7 ≡ true
unfolding period_of has
holiday-before-7 = refl

holiday-from-23 : every (λ h. eqb 5 (period_of 1 h)) 23 1 ≡ true
unfolding period_of has
holiday-from-23 = refl

pub on_7_to_10 : (h : ℕ) → 7 ≤ h → h ≤ 10 → period_of 0 h ≡ 0
on_7_to_10 h low high = on 0 0 7 4 from-7 h low (omega arith)

pub on_11_to_14 : (h : ℕ) → 11 ≤ h → h ≤ 14 → period_of 0 h ≡ 1
on_11_to_14 h low high = on 1 0 11 4 from-11 h low (omega arith)

pub on_15_to_18 : (h : ℕ) → 15 ≤ h → h ≤ 18 → period_of 0 h ≡ 2
on_15_to_18 h low high = on 2 0 15 4 from-15 h low (omega arith)

pub on_19_to_22 : (h : ℕ) → 19 ≤ h → h ≤ 22 → period_of 0 h ≡ 3
on_19_to_22 h low high = on 3 0 19 4 from-19 h low (omega arith)

pub on_holiday : (h : ℕ) → 7 ≤ h → h ≤ 22 → period_of 1 h ≡ 4
on_holiday h low high = on 4 1 7 16 holiday h low (omega arith)

pub before_7 : (day : DayType) (h : ℕ) → h ≤ 6 → period_of (day_number day) h ≡ 5
before_7 Weekday h high = on 5 0 0 7 before-7 h (omega arith) (omega arith)
before_7 WeekendOrHoliday h high = on 5 1 0 7 holiday-before-7 h (omega arith) (omega arith)

pub on_23 : (day : DayType) (h : ℕ) → 23 ≤ h → h ≤ 23 → period_of (day_number day) h ≡ 5
on_23 Weekday h low high = on 5 0 23 1 from-23 h low (omega arith)
on_23 WeekendOrHoliday h low high = on 5 1 23 1 holiday-from-23 h low (omega arith)

pub ruleset periods = (on_7_to_10, on_11_to_14, on_15_to_18, on_19_to_22, on_holiday, before_7, on_23)
