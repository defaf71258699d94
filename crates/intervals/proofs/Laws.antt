-- What it means that no row refuses four curves: their counts are in range, and so are their four sums. What is then answered.
-- Assumes nothing.
use mathlib.Core.Path.{◌≡◌, refl, sym, ap, ◌∙◌}
use mathlib.Core.Bool.{Bool, true, false, cond, ◌&&◌}
use mathlib.Core.List.{List, ◌∷◌}
use Prim.Native.Nat.{ℕ, ◌≤◌}
use lib.Dec.{leb, eqb}
use lib.IntN.{ℤ}
use lib.ListN.{length}
use borrow.Author.Tests.{not-false, leb-true, le-leb, eqb-true}
use Rattle.amounts.specs.Limits.{is_point_mwh, is_price}
use Rattle.amounts.specs.Lists.{every}
use Rattle.refusals.specs.Refusals.{Verdict, refuse, accept, first, answered, judge, None}
use Rattle.refusals.specs.Figures.{refusal_of}
use Rattle.refusals.proofs.Laws.{numbered, and_left, and_right, none-applies, none_applied, answered-none, answered-some, judge-none}
use Rattle.kinds.specs.Kinds.{rules_of, kind_row}
use Rattle.intervals.specs.Intervals.{Counts, Intervals, after_first, after_second, after_third, points, intervals_of, short, counts_fit, curves_rows, curves_verdict, no_intervals, intervals_in, intervals_fit, is_none}
use Rattle.intervals.proofs.Sums.{interval-small}

-- ---- four tests at once
module _ (a b c d : Bool) where
  pub record Each : Type 0 where
    pub first : a ≡ true
    pub second : b ≡ true
    pub third : c ≡ true
    pub fourth : d ≡ true

  pub each : (a && b && c && d) ≡ true → Each
  each h =
      let three = and_left (a && b && c) d h in
      let two = and_left (a && b) c three in
      record { first = and_left a b two; second = and_right a b two; third = and_right (a && b) c three; fourth = and_right (a && b && c) d h }

-- four numbers up to a limit
pub record Within (limit a b c d : ℕ) : Type 0 where
  pub first : a ≤ limit
  pub second : b ≤ limit
  pub third : c ≤ limit
  pub fourth : d ≤ limit

module _ (limit a b c d : ℕ) where
  pub within : (leb a limit && leb b limit && leb c limit && leb d limit) ≡ true → Within limit a b c d
  within h =
      let e = each (leb a limit) (leb b limit) (leb c limit) (leb d limit) h in
      record { first = leb-true a limit e.first; second = leb-true b limit e.second; third = leb-true c limit e.third; fourth = leb-true d limit e.fourth }

  within-fits : Within limit a b c d → (leb a limit && leb b limit && leb c limit && leb d limit) ≡ true
  within-fits w = rw (le-leb a limit w.first, le-leb b limit w.second, le-leb c limit w.third, le-leb d limit w.fourth)

-- ---- the answer that goes with a number
answered-by : (n : ℕ) (s : Intervals) (b : Bool) → eqb n 0 ≡ b → refusal_of (cond b (accept s) (refuse n)) ≡ n
answered-by n s true e = sym (eqb-true n 0 e)
answered-by n s false e = refl

answered-refusal : (n : ℕ) (s : Intervals) → refusal_of (answered n s) ≡ n
unfolding answered
answered-refusal n s = answered-by n s (eqb n 0) refl

-- ---- the four sums of a record
pub none-fits : intervals_fit no_intervals ≡ true
none-fits = refl

pub none-eq : (s : Intervals) → is_none s ≡ true → s ≡ no_intervals
none-eq s h =
    let e = each (eqb s.first 0) (eqb s.second 0) (eqb s.third 0) (eqb s.fourth 0) h in
    λ j. record { first = eqb-true s.first 0 e.first j; second = eqb-true s.second 0 e.second j; third = eqb-true s.third 0 e.third j; fourth = eqb-true s.fourth 0 e.fourth j }

pub fit-each : (s : Intervals) → intervals_fit s ≡ true → Within 640000 s.first s.second s.third s.fourth
fit-each s h = within 640000 s.first s.second s.third s.fourth h

-- ---- the counts

module _ (c : Counts) where
  pub counts-short : short c ≡ true → Within 64 c.first c.second c.third c.fourth
  counts-short h = within 64 c.first c.second c.third c.fourth h

  pub counts-few : counts_fit c ≡ true → Within 64 c.first c.second c.third c.fourth
  counts-few h = counts-short (and_left (short c) (leb 1 (points c)) h)

  pub counts-long : short c ≡ false → false ≡ counts_fit c
  counts-long h = rw h

  pub counts_some : short c ≡ true → leb 1 (points c) ≡ counts_fit c
  counts_some h = rw h

-- ---- the rows

-- the lists have the points that are counted: the test of row 5
abbrev counted_of : ℕ → Counts → List ℕ → List ℤ → Bool
counted_of kind c mwhs prices = (rules_of kind).intervals && counts_fit c && eqb (length mwhs) (points c) && eqb (length prices) (points c)

-- four curves that no row refuses
pub record Fit (kind : ℕ) (c : Counts) (ms : List ℕ) (ps : List ℤ) : Type 0 where
  pub intervals : (rules_of kind).intervals ≡ true
  pub counts : counts_fit c ≡ true
  pub mwh_count : length ms ≡ points c
  pub price_count : length ps ≡ points c
  pub mwhs : every is_point_mwh ms ≡ true
  pub prices : every is_price ps ≡ true

module _ (kind : ℕ) (c : Counts) (mwhs : List ℕ) (prices : List ℤ) where
  pub curves-rows-numbered : numbered (curves_rows kind c mwhs prices) ≡ true
  unfolding numbered curves_rows
  curves-rows-numbered = refl

  pub curves-table-numbered : numbered (kind_row kind ∷ curves_rows kind c mwhs prices) ≡ true
  unfolding numbered curves_rows
  curves-table-numbered = refl

  pub fit : None (curves_rows kind c mwhs prices) → Fit kind c mwhs prices
  unfolding None curves_rows
  fit h =
      let e = each (rules_of kind).intervals (counts_fit c) (eqb (length mwhs) (points c)) (eqb (length prices) (points c)) (not-false (counted_of kind c mwhs prices) h.0) in
      record {
        intervals = e.first;
        counts = e.second;
        mwh_count = eqb-true (length mwhs) (points c) e.third;
        price_count = eqb-true (length prices) (points c) e.fourth;
        mwhs = not-false (every is_point_mwh mwhs) h.1.0;
        prices = not-false (every is_price prices) h.1.1.0;
      }

  pub curves-kind : None (curves_rows kind c mwhs prices) → (rules_of kind).intervals ≡ true
  curves-kind h = (fit h).intervals

  pub curves-fit : None (curves_rows kind c mwhs prices) → intervals_fit (intervals_of c mwhs) ≡ true
  curves-fit h =
      let f = fit h in
      let few = counts-few c f.counts in
      let s = intervals_of c mwhs in
      within-fits 640000 s.first s.second s.third s.fourth
      (record {
        first = interval-small 0 c.first mwhs f.mwhs few.first;
        second = interval-small (after_first c) c.second mwhs f.mwhs few.second;
        third = interval-small (after_second c) c.third mwhs f.mwhs few.third;
        fourth = interval-small (after_third c) c.fourth mwhs f.mwhs few.fourth;
      })

  -- a kind of one curve or counts out of range, and else what the lengths say
  pub not-counted : ((rules_of kind).intervals && counts_fit c) ≡ false → false ≡ counted_of kind c mwhs prices
  not-counted h = rw h

  pub counted-by : ((rules_of kind).intervals && counts_fit c) ≡ true → (eqb (length mwhs) (points c) && eqb (length prices) (points c)) ≡ counted_of kind c mwhs prices
  counted-by h = rw h

  -- ---- what is answered

  -- the number that the table gives
  pub curves-refusal-is : refusal_of (curves_verdict kind c mwhs prices) ≡ first (kind_row kind ∷ curves_rows kind c mwhs prices)
  unfolding curves_verdict judge
  curves-refusal-is = answered-refusal (first (kind_row kind ∷ curves_rows kind c mwhs prices)) (intervals_of c mwhs)

  -- and the four sums, where that is none
  pub intervals-in : None (kind_row kind ∷ curves_rows kind c mwhs prices) → intervals_in (curves_verdict kind c mwhs prices) ≡ intervals_of c mwhs
  unfolding curves_verdict
  intervals-in h = ap intervals_in (judge-none (kind_row kind ∷ curves_rows kind c mwhs prices) (intervals_of c mwhs) h)

  -- by the table's number n
  module _ (n : ℕ) (e : n ≡ first (kind_row kind ∷ curves_rows kind c mwhs prices)) where
    pub curves-stand : n ≡ 0 → Fit kind c mwhs prices
    unfolding None
    curves-stand z = fit (none-applies (kind_row kind ∷ curves_rows kind c mwhs prices) curves-table-numbered (sym e ∙ z)).1

    pub refused-curves : (n ≡ 0 → ⊥) → refuse n ≡ curves_verdict kind c mwhs prices
    unfolding curves_verdict judge
    refused-curves h = rw (← e) (sym (answered-some n (intervals_of c mwhs) h))

    pub standing-curves : n ≡ 0 → {s : Intervals} → s ≡ intervals_of c mwhs → accept s ≡ curves_verdict kind c mwhs prices
    unfolding curves_verdict judge
    standing-curves none q = rw (← e, none, q) (sym (answered-none (intervals_of c mwhs)))

  -- what the table leaves
  pub curves-passed : ◌≡◌ {A = Verdict (Unit {0})} (accept (tt {0})) (judge (kind_row kind ∷ curves_rows kind c mwhs prices) (tt {0})) → Fit kind c mwhs prices
  unfolding None
  curves-passed e = fit (none_applied (kind_row kind ∷ curves_rows kind c mwhs prices) (tt {0}) (tt {0}) curves-table-numbered e).1
