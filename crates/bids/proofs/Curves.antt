-- What it means that no row refuses a bid: its points are a curve, and its amounts are in their ranges.
-- Assumes nothing.
use mathlib.Core.Path.{◌≡◌, refl, sym, ap, subst, ◌∙◌}
use mathlib.Core.Bool.{Bool, true, false, not, cond, ◌&&◌}
use mathlib.Core.List.{List, [], ◌∷◌}
use Prim.Native.Nat.{ℕ, zero, suc, ◌*◌, ◌≤◌, zero-le}
use native.Mathlib.Nat.{max-le}
use native.Mathlib.Omega.{arith}
use lib.Dec.{leb, eqb}
use lib.IntN.{ℤ, pos, neg_ℤ, ◌*ℤ◌}
use lib.Signed.{le_z}
use lib.ListN.{length, get_or}
use borrow.Author.Tests.{not-true, not-false, leb-true, le-leb, eqb-true}
use Rattle.amounts.specs.Amount.{up, Range}
use Rattle.amounts.specs.Limits.{between, is_point_mwh, is_price}
use Rattle.amounts.specs.Lists.{every}
use Rattle.amounts.proofs.Signed.{up_neg, mul_mono, larger-of, times-of, range-true, range-wider}
use Rattle.refusals.specs.Refusals.{row, first, Verdict, refuse, accept, judge, None}
use Rattle.refusals.proofs.Laws.{numbered, and_left, and_right, never, none-applies, none-split, numbered-append, none_applied, answered-none, answered-some}
use Rattle.kinds.specs.declared.Rules.{Rules}
use Rattle.kinds.specs.Kinds.{quarter_hour, virtual, is_kind, has_one_curve, kind_row, unless_exempt, rules_of, import_rules, export_rules, hour_ahead_rules, wheel_rules, differential_fits, bid_mwh_fits, pending_fits}
use Rattle.kinds.proofs.ByKind.{by-kind, by-rules, rules-1, rules-2, rules-3, rules-4, rules-5, rules-6}
use Rattle.kinds.proofs.Fits.{pending-range, exempt-range, differential-small}
use Rattle.bids.specs.Points.{Point, curve, largest_mwh, total_mwh, share, mwh_at, Exposure, tried, exposure, wheel_exposure}
use Rattle.bids.specs.Bids.{import_bid, export_bid, hour_ahead_bid, bid_mwh, bid_requirement}
pub use Rattle.bids.specs.Rows.{Fit}
use Rattle.bids.specs.Rows.{point_rows, bid_rows}
use Rattle.bids.specs.Entries.{bid_verdict}
use Rattle.bids.proofs.Walks.{point_at}
use Rattle.bids.proofs.Largest.{exposure-only}

-- where each element passes a test, so does what stands at any place, if what is read past the end does
every-at : {A : Type 0} (p : A → Bool) (d : A) → p d ≡ true → (xs : List A) → every p xs ≡ true → (k : ℕ) → p (get_or xs k d) ≡ true
unfolding every
every-at p d h [] e k = h
every-at p d h (x ∷ xs) e zero = and_left (p x) (every p xs) e
every-at p d h (x ∷ xs) e (suc k) = every-at p d h xs (and_right (p x) (every p xs) e) k

-- ---- rows

pub point-rows-numbered : (ms : List ℕ) (ps : List ℤ) → numbered (point_rows ms ps) ≡ true
unfolding numbered point_rows
point-rows-numbered ms ps = refl

pub bid-rows-numbered : (kind : ℕ) (ms : List ℕ) (ps : List ℤ) (d : ℕ) → numbered (bid_rows kind ms ps d) ≡ true
unfolding numbered bid_rows
bid-rows-numbered kind ms ps d = numbered-append (point_rows ms ps) (row 8 (not (differential_fits (rules_of kind) d)) ∷ []) (point-rows-numbered ms ps) refl

pub fit : {ms : List ℕ} {ps : List ℤ} → None (point_rows ms ps) → Fit ms ps
unfolding None point_rows
fit {ms} {ps} h =
    let counted = not-false (between 1 64 (length ms) && eqb (length ms) (length ps)) h.0 in
    let from = and_left (between 1 64 (length ms)) (eqb (length ms) (length ps)) counted in
    record {
      some = leb-true 1 (length ms) (and_left (leb 1 (length ms)) (leb (length ms) 64) from);
      few = leb-true (length ms) 64 (and_right (leb 1 (length ms)) (leb (length ms) 64) from);
      equal = eqb-true (length ms) (length ps) (and_right (between 1 64 (length ms)) (eqb (length ms) (length ps)) counted);
      mwhs = not-false (every is_point_mwh ms) h.1.0;
      prices = not-false (every is_price ps) h.1.1.0;
    }

-- the point at a place
pub fit-point : {ms : List ℕ} {ps : List ℤ} → Fit ms ps → (k : ℕ) {q : Point} → q ≡ point_at ms ps k → (is_point_mwh q.mwh ≡ true) × (is_price q.price ≡ true)
fit-point {ms} {ps} f k e =
    (ap (λ (q : Point). is_point_mwh q.mwh) e ∙ every-at is_point_mwh 0 refl ms f.mwhs k, ap (λ (q : Point). is_price q.price) e ∙ every-at is_price (pos 0) refl ps f.prices k)

pub fit-mwh : {ms : List ℕ} {ps : List ℤ} → Fit ms ps → (k : ℕ) → get_or ms k 0 ≤ 10000
fit-mwh {ms} f k = leb-true (get_or ms k 0) 10000 (every-at is_point_mwh 0 refl ms f.mwhs k)

-- what a test leaves of a number
shared : (t : Bool) {m k : ℕ} → m ≤ k → cond t m 0 ≤ k
shared true h = h
shared false h = zero-le

pub fit-share : {ms : List ℕ} {ps : List ℤ} → Fit ms ps → (k p : ℕ) {q : Point} → q ≡ point_at ms ps k → share p q ≤ 10000
fit-share {ms} {ps} f k p e = subst (λ (q : Point). share p q ≤ 10000) (sym e) (shared (le_z (pos p) (get_or ps k (pos 0))) (fit-mwh f k))

pub fit-tried : {ms : List ℕ} {ps : List ℤ} → Fit ms ps → (k : ℕ) {q : Point} → q ≡ point_at ms ps k → up q.price ≤ 1000000
fit-tried f k {q} e = (range-true 1000000 1000000 q.price (fit-point f k e).1).high

pub fit-bid : (kind : ℕ) (ms : List ℕ) (ps : List ℤ) (d : ℕ) → None (bid_rows kind ms ps d) → None (point_rows ms ps) × (differential_fits (rules_of kind) d ≡ true)
unfolding None bid_rows
fit-bid kind ms ps d h =
    let s = none-split (point_rows ms ps) (row 8 (not (differential_fits (rules_of kind) d)) ∷ []) h.1 in
    (s.0, not-false (differential_fits (rules_of kind) d) s.1.0)

-- its kind bids by one curve: not by four, and not by two sides
pub one-curve : (kind : ℕ) (ms : List ℕ) (ps : List ℤ) (d : ℕ) → None (bid_rows kind ms ps d) → ((rules_of kind).intervals ≡ false) × ((rules_of kind).sides ≡ false)
unfolding None bid_rows
one-curve kind ms ps d h =
    let one = not-false (has_one_curve (rules_of kind)) h.0 in
    let four = (rules_of kind).intervals in
    let two = (rules_of kind).sides in
    (not-true four (and_left (not four) (not two) one), not-true two (and_right (not four) (not two) one))

no-quarter : (kind : ℕ) (ms : List ℕ) (ps : List ℤ) (d : ℕ) → None (bid_rows kind ms ps d) → kind ≡ quarter_hour → ⊥
no-quarter kind ms ps d h e = never (sym (one-curve kind ms ps d h).0 ∙ ap (λ (r : Rules). r.intervals) (rules-5 kind e))

no_sides : (kind : ℕ) (ms : List ℕ) (ps : List ℤ) (d : ℕ) → None (bid_rows kind ms ps d) → kind ≡ virtual → ⊥
no_sides kind ms ps d h e = never (sym (one-curve kind ms ps d h).1 ∙ ap (λ (r : Rules). r.sides) (rules-6 kind e))

-- a bid that the table gives no number
pub bid-stands : (kind : ℕ) (ms : List ℕ) (ps : List ℤ) (d n : ℕ) → n ≡ first (kind_row kind ∷ bid_rows kind ms ps d) → n ≡ 0 → None (point_rows ms ps) × (differential_fits (rules_of kind) d ≡ true)
unfolding None numbered
bid-stands kind ms ps d n e z = fit-bid kind ms ps d (none-applies (kind_row kind ∷ bid_rows kind ms ps d) (bid-rows-numbered kind ms ps d) (sym e ∙ z)).1

-- what is answered, by the table's number n
module _ (kind : ℕ) (ms : List ℕ) (ps : List ℤ) (d : ℕ) (exempt : Bool) (n : ℕ) (e : n ≡ first (kind_row kind ∷ bid_rows kind ms ps d)) where
  pub refused-bid : (n ≡ 0 → ⊥) → refuse n ≡ bid_verdict kind ms ps d exempt
  unfolding bid_verdict judge
  refused-bid h =
      rw (← e) (sym (answered-some n (record { mwh = bid_mwh kind (curve ms ps); cents = bid_requirement kind (curve ms ps) d exempt }) h))

  pub standing-bid : n ≡ 0 → {m : ℕ} {y z : ℤ} → m ≡ bid_mwh kind (curve ms ps) → y ≡ z → z ≡ bid_requirement kind (curve ms ps) d exempt → accept (record { mwh = m; cents = y }) ≡ bid_verdict kind ms ps d exempt
  unfolding bid_verdict judge
  standing-bid none p q r =
      rw (← e, none, p, q, r) (sym (answered-none (record { mwh = bid_mwh kind (curve ms ps); cents = bid_requirement kind (curve ms ps) d exempt })))

-- what the bid's table leaves
pub bid-passed : (kind : ℕ) (ms : List ℕ) (ps : List ℤ) (d : ℕ) → ◌≡◌ {A = Verdict (Unit {0})} (accept (tt {0})) (judge (kind_row kind ∷ bid_rows kind ms ps d) (tt {0})) → None (point_rows ms ps) × (differential_fits (rules_of kind) d ≡ true)
unfolding None numbered
bid-passed kind ms ps d e = fit-bid kind ms ps d (none_applied (kind_row kind ∷ bid_rows kind ms ps d) (tt {0}) (tt {0}) (bid-rows-numbered kind ms ps d) e).1

-- ---- amounts

module _ (m : ℕ) (ms : List ℕ) (h : every is_point_mwh (m ∷ ms) ≡ true) where
  mwh-head : m ≤ 10000
  unfolding every
  mwh-head = leb-true m 10000 (and_left (is_point_mwh m) (every is_point_mwh ms) h)

  mwh-tail : every is_point_mwh ms ≡ true
  unfolding every
  mwh-tail = and_right (is_point_mwh m) (every is_point_mwh ms) h

module _ (z : ℤ) (ps : List ℤ) (h : every is_price (z ∷ ps) ≡ true) where
  price-head : Range 1000000 1000000 z
  unfolding every
  price-head = range-true 1000000 1000000 z (and_left (is_price z) (every is_price ps) h)

  price-tail : every is_price ps ≡ true
  unfolding every
  price-tail = and_right (is_price z) (every is_price ps) h

largest-each : (ms : List ℕ) (ps : List ℤ) → every is_point_mwh ms ≡ true → largest_mwh (curve ms ps) ≤ 10000
unfolding largest_mwh
largest-each [] ps h = zero-le
largest-each (m ∷ ms) [] h = zero-le
largest-each (m ∷ ms) (z ∷ ps) h = max-le (mwh-head m ms h) (largest-each ms ps (mwh-tail m ms h))

pub largest-small : {ms : List ℕ} {ps : List ℤ} → Fit ms ps → largest_mwh (curve ms ps) ≤ 10000
largest-small {ms} {ps} f = largest-each ms ps f.mwhs

total-each : (ms : List ℕ) (ps : List ℤ) → every is_point_mwh ms ≡ true → total_mwh (curve ms ps) ≤ 10000 * length ms
unfolding total_mwh
total-each [] ps h = zero-le
total-each (m ∷ ms) [] h = zero-le
total-each (m ∷ ms) (z ∷ ps) h = omega (arith, mwh-head m ms h, total-each ms ps (mwh-tail m ms h))

pub total-small : {ms : List ℕ} {ps : List ℤ} → Fit ms ps → total_mwh (curve ms ps) ≤ 640000
total-small {ms} {ps} f = omega (arith, total-each ms ps f.mwhs)

mwh_at-each : (p : ℕ) (ms : List ℕ) (ps : List ℤ) → every is_point_mwh ms ≡ true → mwh_at p (curve ms ps) ≤ 10000 * length ms
unfolding mwh_at
mwh_at-each p [] ps h = zero-le
mwh_at-each p (m ∷ ms) [] h = zero-le
mwh_at-each p (m ∷ ms) (z ∷ ps) h = omega (arith, shared (le_z (pos p) z) (mwh-head m ms h), mwh_at-each p ms ps (mwh-tail m ms h))

pub mwh_at-small : (p : ℕ) {ms : List ℕ} {ps : List ℤ} → Fit ms ps → mwh_at p (curve ms ps) ≤ 640000
mwh_at-small p {ms} {ps} f = omega (arith, mwh_at-each p ms ps f.mwhs)

tried-each : (l : List Point) (ms : List ℕ) (ps : List ℤ) → ((p : ℕ) → mwh_at p l ≤ 640000) → every is_price ps ≡ true → tried l (curve ms ps) ≤ 640000000000
unfolding tried
tried-each l [] ps h g = zero-le
tried-each l (m ∷ ms) [] h g = zero-le
tried-each l (m ∷ ms) (z ∷ ps) h g = max-le (mul_mono (price-head z ps g).high (h (up z))) (tried-each l ms ps h (price-tail z ps g))

pub exposure-small : {ms : List ℕ} {ps : List ℤ} → Fit ms ps → exposure (curve ms ps) ≤ 640000000000
unfolding exposure
exposure-small {ms} {ps} f = tried-each (curve ms ps) ms ps (λ p. mwh_at-small p f) f.prices

pub exposed-small : {ms : List ℕ} {ps : List ℤ} {e : ℕ} → Fit ms ps → Exposure (curve ms ps) e → e ≤ 640000000000
exposed-small f x = rw (exposure-only x) (exposure-small f)

wheel-each : (ms : List ℕ) (ps : List ℤ) → every is_point_mwh ms ≡ true → every is_price ps ≡ true → Range 0 10000000000 (wheel_exposure (curve ms ps))
unfolding wheel_exposure
wheel-each [] ps h g = omega arith
wheel-each (m ∷ ms) [] h g = omega arith
wheel-each (m ∷ ms) (z ∷ ps) h g =
    omega (
      arith,
      larger-of (neg_ℤ (pos m *ℤ z)) (wheel_exposure (curve ms ps)),
      up_neg (pos m *ℤ z),
      times-of m z,
      mul_mono (mwh-head m ms h) (price-head z ps g).low,
      wheel-each ms ps (mwh-tail m ms h) (price-tail z ps g),
    )

pub wheel-small : {ms : List ℕ} {ps : List ℤ} → Fit ms ps → Range 0 10000000000 (wheel_exposure (curve ms ps))
wheel-small {ms} {ps} f = wheel-each ms ps f.mwhs f.prices

module _ {ms : List ℕ} {ps : List ℤ} (f : Fit ms ps) (d : ℕ) (h : d ≤ 1000000) where
  pub import-small : largest_mwh (curve ms ps) * d ≤ 10000000000
  import-small = mul_mono (largest-small f) h

  pub total-times-small : total_mwh (curve ms ps) * d ≤ 640000000000
  total-times-small = mul_mono (total-small f) h

-- ---- by kind

-- 01, 'a book is sound': the requirement at stage 1 is '0 to 640,000,000,000 (kind 4: to 20,000,000,000)'
pub bid-bounded : (kind : ℕ) (ms : List ℕ) (ps : List ℤ) (d : ℕ) (exempt : Bool) → None (kind_row kind ∷ bid_rows kind ms ps d) → pending_fits (rules_of kind) (bid_requirement kind (curve ms ps) d exempt) ≡ true
unfolding None bid_requirement import_bid export_bid hour_ahead_bid
bid-bounded kind ms ps d exempt none =
    let b = fit-bid kind ms ps d none.1 in
    let f = fit b.0 in
    let h = differential-small kind d b.1 in
    let l = curve ms ps in
    by-kind (λ (z : ℤ). pending_fits (rules_of kind) z ≡ true) kind _ _ _ _ _ _ _ (not-false (is_kind kind) none.0)
    (λ e. pending-range kind (unless_exempt exempt (import_bid l d)) import_rules 640000000000 (rules-1 kind e) refl (exempt-range exempt 640000000000 (import_bid l d) (omega (arith, import-small f d h))))
    (λ e. pending-range kind (export_bid l d) export_rules 640000000000 (rules-2 kind e) refl (omega (arith, larger-of (pos (exposure l)) (pos (total_mwh l * d)), exposure-small f, total-times-small f d h)))
    (λ e. pending-range kind (hour_ahead_bid l) hour_ahead_rules 640000000000 (rules-3 kind e) refl (omega (arith, exposure-small f)))
    (λ e. pending-range kind (wheel_exposure l) wheel_rules 20000000000 (rules-4 kind e) refl (range-wider (wheel-small f) (omega arith) (omega arith)))
    (λ e. absurd (no-quarter kind ms ps d none.1 e))
    (λ e. absurd (no_sides kind ms ps d none.1 e))

-- 01, 'a book is sound': 'bid MWh is at most 10,000 for kinds 1 and 4 and 640,000 otherwise'
pub mwh-bounded : (kind : ℕ) (ms : List ℕ) (ps : List ℤ) (d : ℕ) → None (kind_row kind ∷ bid_rows kind ms ps d) → bid_mwh_fits (rules_of kind) (bid_mwh kind (curve ms ps)) ≡ true
unfolding None bid_mwh
mwh-bounded kind ms ps d none =
    let f = fit (fit-bid kind ms ps d none.1).0 in
    let l = curve ms ps in
    by-rules kind (λ (r : Rules). bid_mwh_fits r (cond r.adds (total_mwh l) (largest_mwh l)) ≡ true) (not-false (is_kind kind) none.0) (λ e. le-leb (largest_mwh l) 10000 (largest-small f))
    (λ e. le-leb (total_mwh l) 640000 (total-small f))
    (λ e. le-leb (total_mwh l) 640000 (total-small f))
    (λ e. le-leb (largest_mwh l) 10000 (largest-small f))
    (λ e. absurd (no-quarter kind ms ps d none.1 e))
    (λ e. absurd (no_sides kind ms ps d none.1 e))
