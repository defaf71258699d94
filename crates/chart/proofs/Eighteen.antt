-- The eighteen groups part the year, and 01's sentence on seasons and periods gives the same groups.
use mathlib.Core.Path.{◌≡◌, refl}
use Prim.Native.Nat.{ℕ, ◌+◌, ◌*◌, ◌≤◌}
use mathlib.Core.Bool.{Bool, true, false, cond}
use native.Mathlib.Omega.{arith}
use borrow.Author.Tests.{eqb-true}
use lib.Dec.{eqb}
use Rattle.chart.specs.Groups.{has, eighteen, groups_at, group_in, time_in_range, Parted, summer, winter, season_of, period_of}
use Rattle.chart.proofs.Parted.{parted, at-time}

pub eighteen-parted : Parted 18 eighteen
unfolding has eighteen groups_at
eighteen-parted = parted 18 eighteen refl

-- 01, the chart: "(groups 1 to 6) .. (7 to 12), the rest 13 to 18"
pub agree : (m d h : ℕ) → time_in_range m d h ≡ true → season_of m * 6 + period_of d h + 1 ≡ group_in eighteen m d h
unfolding has eighteen groups_at group_in season_of period_of
agree m d h t =
    eqb-true (season_of m * 6 + period_of d h + 1) (group_in eighteen m d h)
    (at-time (λ m d h. eqb (season_of m * 6 + period_of d h + 1) (group_in eighteen m d h)) refl m d h t)

-- 01, At the edges: "Hour 22 on a weekday is group 4 in July, hour 23 group 6"
pub july-22 : group_in eighteen 7 0 22 ≡ 4
unfolding has eighteen groups_at group_in
july-22 = refl

pub july-23 : group_in eighteen 7 0 23 ≡ 6
unfolding has eighteen groups_at group_in
july-23 = refl

pub season-last : (m : ℕ) → season_of m ≤ 2
unfolding season_of
season-last m = by (has summer m) (has winter m)
  where
    by : (s w : Bool) → cond s 0 (cond w 1 2) ≤ 2
    by true w = omega arith
    by false true = omega arith
    by false false = omega arith
