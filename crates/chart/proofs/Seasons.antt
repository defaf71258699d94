-- The season of a month: computed at each of the few months of an arm.
use mathlib.Core.Path.{◌≡◌, refl, sym}
use mathlib.Core.Bool.{true}
use Prim.Native.Nat.{ℕ, ◌≤◌}
use native.Mathlib.Omega.{arith}
use lib.Dec.{eqb}
use Rattle.chart.specs.Groups.{has, season_of, place_of}
use Rattle.chart.specs.declared.groups.Season.{Season}
use Rattle.chart.specs.declared.groups.Season.TheVariants.{Summer, Winter, RestOfYear}
use Rattle.chart.proofs.Ranges.{every, equal}

summer : every (λ m. eqb 0 (season_of m)) 5 4 ≡ true
unfolding season_of has
summer = refl

january-february : every (λ m. eqb 1 (season_of m)) 1 2 ≡ true
unfolding season_of has
january-february = refl

december : every (λ m. eqb 1 (season_of m)) 12 1 ≡ true
unfolding season_of has
december = refl

no-month : every (λ m. eqb 2 (season_of m)) 0 1 ≡ true
unfolding season_of has
no-month = refl

spring : every (λ m. eqb 2 (season_of m)) 3 2 ≡ true
unfolding season_of has
spring = refl

autumn : every (λ m. eqb 2 (season_of m)) 9 3 ≡ true
unfolding season_of has
autumn = refl

pub in_summer : (m : ℕ) → 5 ≤ m → m ≤ 8 → season_of m ≡ 0
in_summer m low high = sym (equal (λ m. 0) season_of 5 4 summer m low (omega arith))

pub in_january_february : (m : ℕ) → 1 ≤ m → m ≤ 2 → season_of m ≡ 1
in_january_february m low high = sym (equal (λ m. 1) season_of 1 2 january-february m low (omega arith))

pub in_december : (m : ℕ) → 12 ≤ m → m ≤ 12 → season_of m ≡ 1
in_december m low high = sym (equal (λ m. 1) season_of 12 1 december m low (omega arith))

pub in_no_month : (m : ℕ) → m ≤ 0 → season_of m ≡ 2
in_no_month m high = sym (equal (λ m. 2) season_of 0 1 no-month m (omega arith) (omega arith))

pub in_spring : (m : ℕ) → 3 ≤ m → m ≤ 4 → season_of m ≡ 2
in_spring m low high = sym (equal (λ m. 2) season_of 3 2 spring m low (omega arith))

pub in_autumn : (m : ℕ) → 9 ≤ m → m ≤ 11 → season_of m ≡ 2
in_autumn m low high = sym (equal (λ m. 2) season_of 9 3 autumn m low (omega arith))

pub ruleset seasons = (in_summer, in_january_february, in_december, in_no_month, in_spring, in_autumn)

pub place-last : (s : Season) → place_of s ≤ 2
place-last Summer = omega arith
place-last Winter = omega arith
place-last RestOfYear = omega arith
