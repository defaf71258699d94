-- The sum of an interval: walked from its end, one step back is one point more; as an iterator gives it; and it is at most 10,000 MWh a point.
-- Assumes nothing.
use mathlib.Core.Path.{◌≡◌, sym, ap, ◌∙◌}
use mathlib.Core.Bool.{true}
use mathlib.Core.List.{List, [], ◌∷◌}
use Prim.Native.Nat.{ℕ, zero, suc, ◌+◌, ◌-◌, ◌*◌, ◌≤◌, ◌<◌, zero-le}
use native.Mathlib.Nat.{le_refl}
use native.Mathlib.Omega.{arith}
use lib.ListN.{length, take, drop, get_or, length-drop}
use lib.Seq.{length-take-le, drop-length, get_or-take, get_or-drop}
use borrow.Author.Tests.{leb-true}
use Rattle.std.specs.List.{fold, sum as sum_of}
use Rattle.amounts.specs.Limits.{is_point_mwh}
use Rattle.amounts.specs.Lists.{sum, every}
use Rattle.amounts.proofs.Walks.{drop-back}
use Rattle.refusals.proofs.Laws.{and_left, and_right}
use Rattle.intervals.specs.Intervals.{interval_mwh}

abbrev added : List ℕ → ℕ
added mwhs = sum ◌+◌ 0 (λ m. m) mwhs

-- the MWh of an interval's points from its place i on
abbrev pub rest : ℕ → ℕ → List ℕ → ℕ → ℕ
rest from count mwhs i = added (drop i (take count (drop from mwhs)))

-- ---- the walk
module _ (from count : ℕ) (mwhs : List ℕ) (fits : from + count ≤ length mwhs) where
  part_length : length (take count (drop from mwhs)) ≡ count
  part_length = length-take-le count (drop from mwhs) (rw (length-drop from mwhs) (omega arith))

  pub rest-none : 0 ≡ rest from count mwhs count
  unfolding sum
  rest-none = sym (ap added (drop-length (take count (drop from mwhs)))) ∙ ap (λ (n : ℕ). rest from count mwhs n) part_length

  pub rest-step : (i : ℕ) → 0 < i → i ≤ count → get_or mwhs (from + (i - 1)) 0 + rest from count mwhs i ≡ rest from count mwhs (i - 1)
  unfolding sum
  rest-step i h g = rw (drop-back (take count (drop from mwhs)) i 0 h (omega (arith, part_length)), get_or-take count (drop from mwhs) (i - 1) 0 (omega arith), get_or-drop from mwhs (i - 1) 0)

pub rest_all : (from count : ℕ) (mwhs : List ℕ) (i : ℕ) → i ≡ 0 → rest from count mwhs i ≡ interval_mwh from count mwhs
unfolding interval_mwh
rest_all from count mwhs i e = ap (λ (n : ℕ). rest from count mwhs n) e

added-fold : (n : ℕ) (mwhs : List ℕ) → fold (λ (a m : ℕ). a + m) n mwhs ≡ n + added mwhs
unfolding sum
added-fold n [] = omega arith
added-fold n (m ∷ mwhs) = omega (arith, added-fold (n + m) mwhs)

-- what an iterator's `sum` gives of an interval's points
pub sum-interval : (from count : ℕ) (mwhs : List ℕ) → sum_of (take count (drop from mwhs)) ≡ interval_mwh from count mwhs
unfolding interval_mwh
sum-interval from count mwhs = omega (arith, added-fold 0 (take count (drop from mwhs)))

-- ---- its bound
every_drop : (n : ℕ) (mwhs : List ℕ) → every is_point_mwh mwhs ≡ true → every is_point_mwh (drop n mwhs) ≡ true
unfolding every
every_drop zero mwhs h = h
every_drop (suc n) [] h = h
every_drop (suc n) (m ∷ mwhs) h = every_drop n mwhs (and_right (is_point_mwh m) (every is_point_mwh mwhs) h)

added-take : (n : ℕ) (mwhs : List ℕ) → every is_point_mwh mwhs ≡ true → added (take n mwhs) ≤ 10000 * n
unfolding every sum
added-take zero mwhs h = zero-le
added-take (suc n) [] h = zero-le
added-take (suc n) (m ∷ mwhs) h =
    omega (arith, leb-true m 10000 (and_left (is_point_mwh m) (every is_point_mwh mwhs) h), added-take n mwhs (and_right (is_point_mwh m) (every is_point_mwh mwhs) h))

added-drop : (n : ℕ) (mwhs : List ℕ) → added (drop n mwhs) ≤ added mwhs
unfolding sum
added-drop zero mwhs = le_refl (added mwhs)
added-drop (suc n) [] = zero-le
added-drop (suc n) (m ∷ mwhs) = omega (arith, added-drop n mwhs)

module _ (from count : ℕ) (mwhs : List ℕ) (points : every is_point_mwh mwhs ≡ true) (few : count ≤ 64) where
  pub interval-small : interval_mwh from count mwhs ≤ 640000
  unfolding interval_mwh
  interval-small = omega (arith, added-take count (drop from mwhs) (every_drop from mwhs points))

  pub rest-small : (i : ℕ) → rest from count mwhs i ≤ 640000
  unfolding interval_mwh
  rest-small i = omega (arith, added-drop i (take count (drop from mwhs)), interval-small)
