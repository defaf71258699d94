-- What a close that is not turned away lists, and how large a closed bid's requirement is.
-- Assumes nothing.
use mathlib.Core.Path.{◌≡◌, refl, sym, ap, subst, ◌∙◌}
use mathlib.Core.Bool.{true, false, ◌&&◌}
use mathlib.Core.List.{List}
use Prim.Native.Nat.{ℕ, ◌+◌, ◌*◌, ◌≤◌}
use native.Mathlib.Omega.{arith}
use borrow.Author.Tests.{eqb-true, eqb-false, leb-true, not-false}
use lib.Dec.{eqb}
use lib.IntN.{ℤ, pos, negsuc, nat_abs, ◌+ℤ◌, ◌*ℤ◌}
use lib.ListN.{length}
use Rattle.amounts.specs.Amount.{up, down, max_of, Range, Within}
use Rattle.amounts.specs.Limits.{is_quantity, is_price}
use Rattle.amounts.specs.Lists.{every}
use Rattle.amounts.proofs.Signed.{signed, tested, larger-of, times-of, range-true, range-times, range-add}
use Rattle.distinct.specs.Numbers.{stands_in}
use Rattle.refusals.specs.Refusals.{Verdict, accept, refuse, first, None, judge}
use Rattle.refusals.specs.Figures.{cents_of}
use Rattle.refusals.proofs.Laws.{numbered, and_left, and_right, none-applies, judge-none, answered-some}
use Rattle.kinds.specs.Kinds.{quarter_hour, rules_of, is_path}
use Rattle.keys.specs.Keys.{is_hour}
use Rattle.intervals.specs.declared.types.Intervals.{Intervals}
use Rattle.intervals.specs.Intervals.{intervals_fit}
use Rattle.closings.specs.Closings.{Quote, place_of, quote_at, each_once, hour_cents, quarter_up, closed_requirement, closed_rows, closed_verdict, close_rows}
use Rattle.closings.proofs.Listing.{every-at, no_quote, quote-unlisted}

-- ---- no row has the number 0
pub close-rows-numbered : (hour : ℕ) (paths : List ℕ) (prices : List ℤ) → numbered (close_rows hour paths prices) ≡ true
unfolding numbered close_rows
close-rows-numbered hour paths prices = refl

pub closed-rows-numbered : (s : Intervals) (q : Quote) → numbered (closed_rows s q) ≡ true
unfolding numbered closed_rows
closed-rows-numbered s q = refl

-- ---- a close that no row turns away
pub record CloseFits (hour : ℕ) (paths : List ℕ) (prices : List ℤ) : Type 0 where
  pub paths-fit : every (is_path (rules_of quarter_hour)) paths ≡ true
  pub hour-fits : is_hour hour ≡ true
  pub hour-high : hour ≤ 999999
  pub once : each_once paths ≡ true
  pub four : length prices ≡ length paths * 4
  pub prices-fit : every is_price prices ≡ true

pub close-fits : (hour : ℕ) (paths : List ℕ) (prices : List ℤ) → None (close_rows hour paths prices) → CloseFits hour paths prices
unfolding None close_rows
close-fits hour paths prices h =
    let time = not-false (is_hour hour) h.1.0 in
    let listed = not-false (each_once paths && eqb (length prices) (length paths * 4)) h.1.1.0 in
    record {
      paths-fit = not-false (every (is_path (rules_of quarter_hour)) paths) h.0;
      hour-fits = time;
      hour-high = leb-true hour 999999 time;
      once = and_left (each_once paths) (eqb (length prices) (length paths * 4)) listed;
      four = eqb-true (length prices) (length paths * 4) (and_right (each_once paths) (eqb (length prices) (length paths * 4)) listed);
      prices-fit = not-false (every is_price prices) h.1.1.1.0;
    }

-- ---- four sums and four prices in range
pub record Summed (s : Intervals) : Type 0 where
  pub first : is_quantity s.first ≡ true
  pub second : is_quantity s.second ≡ true
  pub third : is_quantity s.third ≡ true
  pub fourth : is_quantity s.fourth ≡ true

pub record Priced (q : Quote) : Type 0 where
  pub first : is_price q.first ≡ true
  pub second : is_price q.second ≡ true
  pub third : is_price q.third ≡ true
  pub fourth : is_price q.fourth ≡ true

-- past the end a price is 0, which is in range
pub quote-fits : (prices : List ℤ) → every is_price prices ≡ true → (place : ℕ) → Priced (quote_at place prices)
quote-fits prices h place =
    let at = every-at (λ (z : ℤ). is_price z ≡ true) is_price (pos 0) refl (λ z e. e) prices h in
    record { first = at (place * 4); second = at (place * 4 + 1); third = at (place * 4 + 2); fourth = at (place * 4 + 3) }

module _ (s : Intervals) (q : Quote) where
  -- the entry turns away nothing else
  pub closed_none : intervals_fit s ≡ true → Priced q → None (closed_rows s q)
  unfolding None closed_rows
  closed_none h p = rw (h, p.first, p.second, p.third, p.fourth) (refl, (refl, tt))

  module _ (h : None (closed_rows s q)) where
    pub closed-sums : Summed s
    unfolding None closed_rows
    closed-sums =
        let a = is_quantity s.first in let b = is_quantity s.second in let c = is_quantity s.third in let d = is_quantity s.fourth in
        let all = not-false (a && b && c && d) h.0 in
        let three = and_left (a && b && c) d all in
        let two = and_left (a && b) c three in
        record { first = and_left a b two; second = and_right a b two; third = and_right (a && b) c three; fourth = and_right (a && b && c) d all }

    pub closed-prices : Priced q
    unfolding None closed_rows
    closed-prices =
        let a = is_price q.first in let b = is_price q.second in let c = is_price q.third in let d = is_price q.fourth in
        let all = not-false (a && b && c && d) h.1.0 in
        let three = and_left (a && b && c) d all in
        let two = and_left (a && b) c three in
        record { first = and_left a b two; second = and_right a b two; third = and_right (a && b) c three; fourth = and_right (a && b && c) d all }

-- ---- the requirement
nat-up : (z : ℤ) → down z ≡ 0 → nat_abs z ≡ up z
nat-up (pos n) e = refl
nat-up (negsuc n) e = absurd (omega arith)

pub floor-up : (z : ℤ) → nat_abs (max_of z (pos 0)) ≡ up z
floor-up z = nat-up (max_of z (pos 0)) (omega (arith, larger-of z (pos 0))) ∙ omega (arith, larger-of z (pos 0))

pub price-within : (z : ℤ) → is_price z ≡ true → Within 1000000 z
price-within z h = range-true 1000000 1000000 z h

interval-range : (mwh : ℕ) (price : ℤ) → is_quantity mwh ≡ true → is_price price ≡ true → Within 640000000000 (pos mwh *ℤ price)
interval-range mwh price m p = range-times (leb-true mwh 640000 m) (price-within price p)

quarter-range : (z : ℤ) → Within 2560000000000 z → Range 0 640000000000 (quarter_up z)
unfolding quarter_up
quarter-range z h = omega (arith, h.high)

module _ (s : Intervals) (q : Quote) where
  pub requirement-range : None (closed_rows s q) → Range 0 640000000000 (closed_requirement s q)
  unfolding closed_requirement hour_cents
  requirement-range h =
      let m = closed-sums s q h in
      let p = closed-prices s q h in
      let one = interval-range s.first q.first m.first p.first in
      let two = interval-range s.second q.second m.second p.second in
      let three = interval-range s.third q.third m.third p.third in
      let four = interval-range s.fourth q.fourth m.fourth p.fourth in
      quarter-range (hour_cents s q) (range-add (range-add (range-add one two) three) four)

  pub closed-accepted : None (closed_rows s q) → closed_verdict s q ≡ accept (closed_requirement s q)
  unfolding closed_verdict
  closed-accepted h = judge-none (closed_rows s q) (closed_requirement s q) h

  pub closed-refused : (first (closed_rows s q) ≡ 0 → ⊥) → closed_verdict s q ≡ refuse (first (closed_rows s q))
  unfolding closed_verdict judge
  closed-refused h = answered-some (first (closed_rows s q)) (closed_requirement s q) h

  pub closed_is : None (closed_rows s q) → cents_of (closed_verdict s q) ≡ closed_requirement s q
  closed_is h = ap cents_of (closed-accepted h)

  -- whatever the sums and prices: a refusal answers 0
  pub closed-range : Range 0 640000000000 (cents_of (closed_verdict s q))
  unfolding closed_verdict judge
  closed-range =
      let n = first (closed_rows s q) in
      tested (eqb n 0)
      (λ e. let none = none-applies (closed_rows s q) (closed-rows-numbered s q) (eqb-true n 0 e) in
      subst (Range 0 640000000000) (sym (closed_is none)) (requirement-range none))
      (λ e. subst (λ (v : Verdict ℤ). Range 0 640000000000 (cents_of v)) (sym (answered-some n (closed_requirement s q) (eqb-false n 0 e))) (omega arith))

-- ---- a path that is not listed requires nothing
times_zero : (n : ℕ) → pos n *ℤ pos 0 ≡ pos 0
times_zero n = omega (arith, signed, times-of n (pos 0))

no-requirement : (s : Intervals) → closed_requirement s no_quote ≡ pos 0
unfolding closed_requirement hour_cents quarter_up
no-requirement s = ap quarter_up (λ i. times_zero s.first i +ℤ times_zero s.second i +ℤ times_zero s.third i +ℤ times_zero s.fourth i)

pub requirement-unlisted : (s : Intervals) (path : ℕ) (paths : List ℕ) (prices : List ℤ) → length prices ≡ length paths * 4 → stands_in path paths ≡ false → closed_requirement s (quote_at (place_of path paths) prices) ≡ pos 0
requirement-unlisted s path paths prices four e = ap (closed_requirement s) (quote-unlisted path paths prices four e) ∙ no-requirement s
