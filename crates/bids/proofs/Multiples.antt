-- 02, order 7: for kinds 1 to 4, every MWh multiplied by a whole number multiplies what a bid asks: the largest MWh, the MWh sum, the MWh at each price and each MWh x price all are.
-- Assumes nothing.
use mathlib.Core.Path.{◌≡◌, refl, sym, ap, subst, ◌∙◌}
use mathlib.Core.Bool.{Bool, true, false, not, cond}
use mathlib.Core.List.{List, [], ◌∷◌, map}
use mathlib.Core.Logic.{⊎_elim}
use Prim.Native.Nat.{ℕ, ◌*◌, ◌≤◌, ◌<◌, max}
use native.Mathlib.Nat.{le_of_lt, max-eq_left, max-eq_right, mul-le-mul_left, mul-add, mul-zero, mul_assoc, mul_left_comm}
use native.Mathlib.Omega.{arith}
use lib.Dec.{leb, eqb}
use lib.ListN.{length-map}
use lib.IntN.{ℤ, pos, neg_ℤ, ◌*ℤ◌}
use lib.Signed.{le_z}
use borrow.Author.Tests.{leb-true, eqb-true, eqb-false}
use Rattle.amounts.specs.Amount.{down}
use Rattle.amounts.specs.Limits.{between, is_point_mwh, is_price}
use Rattle.amounts.specs.Lists.{every}
use Rattle.amounts.proofs.Signed.{signed, tested, larger-of, times-of, up_neg, down-neg}
use Rattle.refusals.specs.Refusals.{None}
use Rattle.refusals.proofs.Laws.{and_left, and_right}
use Rattle.kinds.specs.Kinds.{import, wheel, by_kind, unless_exempt}
use Rattle.bids.specs.Points.{Point, largest_mwh, total_mwh, mwh_at, exposure, wheel_exposure}
use Rattle.bids.specs.Bids.{import_bid, export_bid, hour_ahead_bid, bid_requirement}
use Rattle.bids.specs.Rows.{point_rows, bid_rows}
use Rattle.bids.proofs.Largest.{apart, exposure-is, exposure-only}
use Rattle.bids.proofs.Curves.{fit, fit-bid}
use Rattle.bids.proofs.Joining.{export-cents}
use Rattle.bids.proofs.Lists.{mwhs_of, prices_of, counted}

max-times : (n a b : ℕ) → max (n * a) (n * b) ≡ n * max a b
max-times n a b =
    ⊎_elim (λ (h : a < b). rw (max-eq_right (le_of_lt h), max-eq_right (mul-le-mul_left n (le_of_lt h))))
    (λ (h : b ≤ a). rw (max-eq_left h, max-eq_left (mul-le-mul_left n h)))
    (apart a b)

module _ (n : ℕ) where
  -- every MWh multiplied; the prices are as they were
  abbrev pub multiple : List Point → List Point
  multiple l = map (λ (q : Point). record { mwh = n * q.mwh; price = q.price }) l

  largest-times : (l : List Point) → largest_mwh (multiple l) ≡ n * largest_mwh l
  unfolding largest_mwh
  largest-times [] = sym (mul-zero n)
  largest-times (q ∷ qs) = rw (largest-times qs) (max-times n q.mwh (largest_mwh qs))

  total-times : (l : List Point) → total_mwh (multiple l) ≡ n * total_mwh l
  unfolding total_mwh
  total-times [] = sym (mul-zero n)
  total-times (q ∷ qs) = rw (total-times qs, mul-add)

  share-times : (t : Bool) (m : ℕ) → cond t (n * m) 0 ≡ n * cond t m 0
  share-times true m = refl
  share-times false m = sym (mul-zero n)

  mwh_at-times : (p : ℕ) (l : List Point) → mwh_at p (multiple l) ≡ n * mwh_at p l
  unfolding mwh_at
  mwh_at-times p [] = sym (mul-zero n)
  mwh_at-times p (q ∷ qs) = rw (mwh_at-times p qs, share-times (le_z (pos p) q.price) q.mwh, mul-add)

  exposure-times : (l : List Point) → exposure (multiple l) ≡ n * exposure l
  exposure-times l =
      let x = exposure-is l in
      let w : (p : ℕ) → p * mwh_at p (multiple l) ≡ n * (p * mwh_at p l) = λ p. rw (mwh_at-times p l) (mul_left_comm p n (mwh_at p l)) in
      sym (exposure-only (record { above = λ p. rw (w p) (mul-le-mul_left n (x.above p)); met = (x.met.0, rw (w x.met.0, x.met.1)) }))

-- a wheel's exposure as a number of cents: the largest MWh x how far the price is below 0
wheel_down : List Point → ℕ
wheel_down [] = 0
wheel_down (q ∷ qs) = max (q.mwh * down q.price) (wheel_down qs)

wheel-cents : (l : List Point) → wheel_exposure l ≡ pos (wheel_down l)
unfolding wheel_exposure wheel_down
wheel-cents [] = refl
wheel-cents (q ∷ qs) =
    let m = q.mwh in
    let z = q.price in
    let w = wheel_down qs in
    rw (wheel-cents qs)
    (omega (arith, signed, larger-of (neg_ℤ (pos m *ℤ z)) (pos w), up_neg (pos m *ℤ z), down-neg (pos m *ℤ z), times-of m z))

wheel-times : (n : ℕ) (l : List Point) → wheel_down (multiple n l) ≡ n * wheel_down l
unfolding wheel_down
wheel-times n [] = sym (mul-zero n)
wheel-times n (q ∷ qs) = rw (wheel-times n qs, mul_assoc) (max-times n (q.mwh * down q.price) (wheel_down qs))

-- ---- by kind

module _ (n : ℕ) (l : List Point) where
  import-multiple : (d : ℕ) → import_bid (multiple n l) d ≡ pos n *ℤ import_bid l d
  unfolding import_bid
  import-multiple d = ap pos (rw (largest-times n l, mul_assoc))

  unless-multiple : (exempt : Bool) (d : ℕ) → unless_exempt exempt (import_bid (multiple n l) d) ≡ pos n *ℤ unless_exempt exempt (import_bid l d)
  unfolding unless_exempt
  unless-multiple true d = ap pos (sym (mul-zero n))
  unless-multiple false d = import-multiple d

  export-multiple : (d : ℕ) → export_bid (multiple n l) d ≡ pos n *ℤ export_bid l d
  export-multiple d =
      rw (export-cents (multiple n l) d, export-cents l d)
      (ap pos (rw (exposure-times n l, total-times n l, mul_assoc) (max-times n (exposure l) (total_mwh l * d))))

  hourly-multiple : hour_ahead_bid (multiple n l) ≡ pos n *ℤ hour_ahead_bid l
  unfolding hour_ahead_bid
  hourly-multiple = ap pos (exposure-times n l)

  wheel-multiple : wheel_exposure (multiple n l) ≡ pos n *ℤ wheel_exposure l
  wheel-multiple = rw (wheel-cents (multiple n l), wheel-cents l) (ap pos (wheel-times n l))

by-curve : (P : ℕ → Type 0) → P 1 → P 2 → P 3 → P 4 → (kind : ℕ) → between import wheel kind ≡ true → P kind
by-curve P one two three four kind h =
    let low = leb-true 1 kind (and_left (leb 1 kind) (leb kind 4) h) in
    let high = leb-true kind 4 (and_right (leb 1 kind) (leb kind 4) h) in
    tested (eqb kind 1) (λ e. subst P (sym (eqb-true kind 1 e)) one)
    (λ n1. tested (eqb kind 2) (λ e. subst P (sym (eqb-true kind 2 e)) two)
    (λ n2. tested (eqb kind 3) (λ e. subst P (sym (eqb-true kind 3 e)) three)
    (λ n3.
    let is : kind ≡ 4 = omega (arith, eqb-false kind 1 n1, eqb-false kind 2 n2, eqb-false kind 3 n3) in
    subst P (sym is) four)))

pub multiple-requirement : (kind n : ℕ) (l : List Point) (d : ℕ) (exempt : Bool) → between import wheel kind ≡ true → bid_requirement kind (multiple n l) d exempt ≡ pos n *ℤ bid_requirement kind l d exempt
unfolding bid_requirement by_kind
multiple-requirement kind n l d exempt h =
    by-curve (λ (k : ℕ). bid_requirement k (multiple n l) d exempt ≡ pos n *ℤ bid_requirement k l d exempt)
    (unless-multiple n l exempt d) (export-multiple n l d) (hourly-multiple n l) (wheel-multiple n l) kind h

-- ---- rows 5 to 8

prices-kept : (n : ℕ) (l : List Point) → prices_of (multiple n l) ≡ prices_of l
prices-kept n [] = refl
prices-kept n (q ∷ qs) = ap (λ (l : List ℤ). q.price ∷ l) (prices-kept n qs)

-- where the multiplied MWh are within a point's limit, no row refuses the points that none refused before
pub multiple-rows : (kind n : ℕ) (l : List Point) (d : ℕ) → None (bid_rows kind (mwhs_of l) (prices_of l) d) → every is_point_mwh (mwhs_of (multiple n l)) ≡ true → None (bid_rows kind (mwhs_of (multiple n l)) (prices_of (multiple n l)) d)
unfolding bid_rows point_rows None
multiple-rows kind n l d h limit =
    let b = fit-bid kind (mwhs_of l) (prices_of l) d h in
    let f = fit b.0 in
    let size = length-map {B = Point} l (λ (q : Point). record { mwh = n * q.mwh; price = q.price }) in
    let own = length-map l (λ (q : Point). q.mwh) in (
      h.0,
      (
        ap not (counted (multiple n l) (omega (arith, f.some, size, own)) (omega (arith, f.few, size, own))),
        (ap not limit, (ap not (ap (every is_price) (prices-kept n l) ∙ f.prices), (ap not b.1, tt))),
      ),
    )
