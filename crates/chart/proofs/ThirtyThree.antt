-- The thirty-three groups part the year, and a chart by seasons has them all.
use mathlib.Core.Path.{◌≡◌, refl, subst}
use mathlib.Core.Bool.{Bool, true, cond, ◌&&◌}
use mathlib.Core.List.{List, [], ◌∷◌}
use Prim.Native.Nat.{ℕ, zero, suc, ◌≤◌}
use native.Mathlib.Omega.{arith}
use Rattle.std.proofs.lemmas.Bool.{and_parts}
use borrow.Author.Tests.{eqb-true}
use lib.Dec.{eqb}
use lib.ListN.{get_or}
use Rattle.chart.specs.Groups.{has, thirty_three, groups_at, group_in, time_in_range, Parted, BothCharts, summer, season_of, month_in}
use Rattle.chart.proofs.Ranges.{every, at}
use Rattle.chart.proofs.Parted.{parted, always, at-time}
use Rattle.chart.proofs.Eighteen.{eighteen-parted}

pub thirty-three-parted : Parted 33 thirty_three
unfolding has thirty_three groups_at
thirty-three-parted = parted 33 thirty_three refl

pub both-charts : BothCharts
both-charts = record { older = eighteen-parted; newer = thirty-three-parted }

-- a month has the groups of its season
pub by-season : (m d h : ℕ) → time_in_range m d h ≡ true → group_in thirty_three (month_in (season_of m)) d h ≡ group_in thirty_three m d h
unfolding has thirty_three groups_at group_in season_of
by-season m d h t =
    eqb-true (group_in thirty_three (month_in (season_of m)) d h) (group_in thirty_three m d h)
    (at-time (λ m d h. eqb (group_in thirty_three (month_in (season_of m)) d h) (group_in thirty_three m d h)) refl m d h t)

-- the chart by seasons: for each its weekdays, then its weekends and holidays, 24 hours each
abbrev pub hours : ℕ → ℕ → ℕ → ℕ → List ℕ
hours s d h zero = []
hours s d h (suc count) = group_in thirty_three (month_in s) d h ∷ hours s d (suc h) count

abbrev pub by-hour : List (List (List ℕ))
by-hour =
    (hours 0 0 0 24 ∷ hours 0 1 0 24 ∷ []) ∷
    (hours 1 0 0 24 ∷ hours 1 1 0 24 ∷ []) ∷
    (hours 2 0 0 24 ∷ hours 2 1 0 24 ∷ []) ∷
    []

abbrev pub place : List (List (List ℕ)) → ℕ → ℕ → ℕ → ℕ
place groups s d h = get_or (get_or (get_or groups s []) d []) h 0

-- such lists are the chart, where it is at each of its 144 places
abbrev pub lists : List (List (List ℕ)) → Bool
lists groups = every (λ s. every (λ d. every (λ h. eqb (place groups s d h) (group_in thirty_three (month_in s) d h)) 0 24) 0 2) 0 3

pub listed : (groups : List (List (List ℕ))) → lists groups ≡ true → (s d h : ℕ) → s ≤ 2 → d ≤ 1 → h ≤ 23 → place groups s d h ≡ group_in thirty_three (month_in s) d h
listed groups e s d h hs hd hh =
    let same : ℕ → ℕ → ℕ → Bool = λ s d h. eqb (place groups s d h) (group_in thirty_three (month_in s) d h) in
    let of-season = at (λ s. every (λ d. every (same s d) 0 24) 0 2) 0 3 e s (omega arith) (omega arith) in
    let of-day = at (λ d. every (same s d) 0 24) 0 2 of-season d (omega arith) (omega arith) in
    eqb-true (place groups s d h) (group_in thirty_three (month_in s) d h) (at (same s d) 0 24 of-day h (omega arith) (omega arith))

-- 02, order 5: "with summer weekday hour 18 alone in one group"
abbrev only-18 : ℕ → ℕ → ℕ → Bool
only-18 m d h = cond (eqb (group_in thirty_three m d h) 4) (has summer m && eqb d 0 && eqb h 18) true

alone : always only-18 ≡ true
unfolding has thirty_three groups_at group_in
alone = refl

pub hour-18-alone : (m d h : ℕ) → time_in_range m d h ≡ true → group_in thirty_three m d h ≡ 4 → (has summer m ≡ true) × (d ≡ 0) × (h ≡ 18)
hour-18-alone m d h t four =
    let e : (has summer m && eqb d 0 && eqb h 18) ≡ true = subst (λ (g : ℕ). cond (eqb g 4) (has summer m && eqb d 0 && eqb h 18) true ≡ true) four (at-time only-18 alone m d h t) in
    let both = and_parts (has summer m && eqb d 0) (eqb h 18) e in
    let early = and_parts (has summer m) (eqb d 0) both.0 in
    (early.0, eqb-true d 0 early.1, eqb-true h 18 both.1)

-- ".. and winter night taking in hour 7", on any day
pub winter-7 : (group_in thirty_three 1 0 7 ≡ 25) × (group_in thirty_three 1 1 7 ≡ 25) × (group_in thirty_three 1 0 6 ≡ 25)
unfolding has thirty_three groups_at group_in
winter-7 = (refl, refl, refl)
