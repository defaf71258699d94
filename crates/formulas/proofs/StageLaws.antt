-- How large the amounts of the stages are, and what an entry answers by its rows.
-- Assumes nothing.
use mathlib.Core.Path.{◌≡◌, refl, sym, ap, subst, ◌∙◌}
use mathlib.Core.Bool.{Bool, true, false}
use mathlib.Core.List.{◌∷◌}
use mathlib.Core.Logic.{◌⊎◌, inl, inr, ⊎_elim}
use Prim.Native.Nat.{ℕ, ◌*◌, ◌-◌, ◌≤◌}
use native.Mathlib.Omega.{arith}
use borrow.Author.Tests.{leb-true, ltb-true, ltb-false, not-false}
use lib.Dec.{ltb}
use lib.IntN.{ℤ, pos, neg_ℤ, ◌+ℤ◌, ◌-ℤ◌, ◌*ℤ◌}
use Rattle.amounts.specs.Amount.{up, down, max_of, Range, in_range}
use Rattle.amounts.specs.Limits.{is_point_mwh, is_quantity, is_price, is_differential, is_pending, is_finished}
use Rattle.amounts.proofs.Signed.{signed, up_neg, down-neg, sub-flip, neg-mul, sum_of, difference-of, larger-of, times-of, mul_mono, max-gap, tested, range-true, range-wider, range-add, range-sub, range-max, range-times, range-mul}
use Rattle.refusals.specs.Refusals.{first, judge, refuse, accept, None}
use Rattle.refusals.proofs.Laws.{answered-some, judge-none}
use Rattle.kinds.specs.declared.Rules.{Rules}
use Rattle.kinds.specs.Kinds.{wheel, is_kind, kind_row, by_kind, rules_of, import_rules, export_rules, hour_ahead_rules, wheel_rules, quarter_hour_rules, virtual_rules, bid_mwh_fits, pending_fits}
use Rattle.kinds.proofs.ByKind.{by-kind, rules-1, rules-2, rules-3, rules-4, rules-5, rules-6}
use Rattle.kinds.proofs.Fits.{range-test, pending-range, pending-bid, pending-wheel, exempt-range}
use Rattle.formulas.specs.Stages.{import_posted, balancing, import_finished, export_posted, export_finished, hour_ahead_finished, wheel_posted, wheel_finished, posted_requirement, finished_requirement}
use Rattle.deliveries.specs.Rows.{posted_rows, finished_rows, bill_rows}
use Rattle.formulas.specs.Entries.{posted_verdict, finished_verdict, billed_verdict}
use Rattle.formulas.proofs.Given.{posting, finish}

nothing : Range 0 0 (pos 0)
nothing = omega arith

counted : (m n : ℕ) → n ≤ m → Range 0 m (pos n)
counted m n h = omega arith

priced : (z : ℤ) → is_price z ≡ true → Range 1000000 1000000 z
priced z h = range-true 1000000 1000000 z h

-- ---- each formula's range
pub import-posted-range : (s d : ℕ) → is_quantity s ≡ true → is_differential d ≡ true → Range 0 640000000000 (import_posted s d)
unfolding import_posted
import-posted-range s d hs hd = omega (arith, mul_mono (leb-true s 640000 hs) (leb-true d 1000000 hd))

pub balancing-range : (s a : ℕ) (p : ℤ) → is_quantity s ≡ true → is_quantity a ≡ true → is_price p ≡ true → Range 0 640000000000 (balancing s a p)
unfolding balancing
balancing-range s a p hs ha hp =
    let gap : Range 640000 640000 (pos s -ℤ pos a) = range-sub (counted 640000 s (leb-true s 640000 hs)) (counted 640000 a (leb-true a 640000 ha)) in
    range-max (range-mul gap (priced p hp)) nothing

pub import-finished-range : (s : ℕ) (day_ahead : ℤ) (a : ℕ) (p : ℤ) → is_quantity s ≡ true → is_price day_ahead ≡ true → is_quantity a ≡ true → is_price p ≡ true → Range 0 1280000000000 (import_finished s day_ahead a p)
unfolding import_finished
import-finished-range s day_ahead a p hs hd ha hp =
    let gap : Range 640000 640000 (pos s -ℤ pos a) = range-sub (counted 640000 s (leb-true s 640000 hs)) (counted 640000 a (leb-true a 640000 ha)) in
    range-max (range-sub (range-mul gap (priced p hp)) (range-times (leb-true s 640000 hs) (priced day_ahead hd))) nothing

pub export-posted-range : (s : ℕ) (p : ℤ) (d : ℕ) → is_quantity s ≡ true → is_price p ≡ true → is_differential d ≡ true → Range 0 640000000000 (export_posted s p d)
unfolding export_posted
export-posted-range s p d hs hp hd = range-times (leb-true s 640000 hs) (range-max (priced p hp) (counted 1000000 d (leb-true d 1000000 hd)))

pub export-finished-range : (posted : ℤ) (s a : ℕ) (p : ℤ) → is_pending posted ≡ true → is_quantity s ≡ true → is_quantity a ≡ true → is_price p ≡ true → Range 640000000000 1280000000000 (export_finished posted s a p)
unfolding export_finished
export-finished-range posted s a p hr hs ha hp =
    range-add (range-sub (range-true 0 640000000000 posted hr) (balancing-range s a p hs ha hp)) (balancing-range a s p ha hs hp)

-- 02, order 4: 'They come to one subtraction: posted amount less (schedule - actual) x real-time price'
floors : (r x : ℤ) → r -ℤ max_of x (pos 0) +ℤ max_of (neg_ℤ x) (pos 0) ≡ r -ℤ x
floors r x = omega (arith, signed, sum_of (r -ℤ max_of x (pos 0)) (max_of (neg_ℤ x) (pos 0)), difference-of r (max_of x (pos 0)), difference-of r x, larger-of x (pos 0), larger-of (neg_ℤ x) (pos 0), up_neg x, down-neg x)

pub one_product : (posted : ℤ) (s a : ℕ) (p : ℤ) → export_finished posted s a p ≡ posted -ℤ (pos s -ℤ pos a) *ℤ p
unfolding export_finished balancing
one_product posted s a p =
    let x = (pos s -ℤ pos a) *ℤ p in
    ap (λ (y : ℤ). posted -ℤ max_of x (pos 0) +ℤ max_of y (pos 0)) (ap (λ (z : ℤ). z *ℤ p) (sym (sub-flip (pos s) (pos a))) ∙ neg-mul (pos s -ℤ pos a) p) ∙ floors posted x

-- a wheel's finish does not: its second half is floored twice, so 7 MWh on a schedule of 5, at a difference of -3, leave 10 at 10, where the one product makes it 4
pub not-of-a-wheel : (wheel_finished (pos 10) 5 7 (pos 0) (pos 3) ≡ pos 10) × (pos 10 -ℤ (pos 5 -ℤ pos 7) *ℤ (pos 0 -ℤ pos 3) ≡ pos 4)
unfolding wheel_finished
not-of-a-wheel = (refl, refl)

pub hour-ahead-finished-range : (a : ℕ) (p : ℤ) → is_quantity a ≡ true → is_price p ≡ true → Range 0 640000000000 (hour_ahead_finished a p)
unfolding hour_ahead_finished
hour-ahead-finished-range a p ha hp = range-max (range-times (leb-true a 640000 ha) (priced p hp)) nothing

pub wheel-posted-range : (s : ℕ) (w i : ℤ) → is_point_mwh s ≡ true → is_price w ≡ true → is_price i ≡ true → Range 0 20000000000 (wheel_posted s w i)
unfolding wheel_posted
wheel-posted-range s w i hs hw hi = range-max (range-times (leb-true s 10000 hs) (range-sub (priced w hw) (priced i hi))) nothing

pub excess-range : (s a : ℕ) → is_quantity s ≡ true → is_quantity a ≡ true → Range 0 640000 (max_of (pos s -ℤ pos a) (pos 0))
excess-range s a hs ha = range-max (range-sub (counted 640000 s (leb-true s 640000 hs)) (counted 640000 a (leb-true a 640000 ha))) nothing

-- below the schedule nothing is added, above it nothing is taken off: so a wheel's finish is within one of the two, and not their sum
wheel-by : (r d : ℤ) (x y : ℕ) → Range 0 20000000000 r → Range 2000000 2000000 d → x ≤ 640000 → y ≤ 640000 → (x ≡ 0) ⊎ (y ≡ 0) → Range 1300000000000 1300000000000 (r -ℤ pos x *ℤ d +ℤ max_of (pos y *ℤ d) (pos 0))
wheel-by r d x y hr hd hx hy one =
    let add = sum_of (r -ℤ pos x *ℤ d) (max_of (pos y *ℤ d) (pos 0)) in
    let sub = difference-of r (pos x *ℤ d) in
    let floor = larger-of (pos y *ℤ d) (pos 0) in
    ⊎_elim
    (λ e. omega (arith, add, sub, floor, times-of x d, times-of y d, mul_mono hy hd.high, mul_mono hy hd.low, ap (λ (n : ℕ). n * up d) e, ap (λ (n : ℕ). n * down d) e))
    (λ e. omega (arith, add, sub, floor, times-of x d, times-of y d, mul_mono hx hd.high, mul_mono hx hd.low, ap (λ (n : ℕ). n * up d) e, ap (λ (n : ℕ). n * down d) e))
    one

one-is-none : (s a : ℕ) → (s - a ≡ 0) ⊎ (a - s ≡ 0)
one-is-none s a = tested (ltb s a) (λ e. inl (omega (arith, ltb-true s a e))) (λ e. inr (omega (arith, ltb-false s a e)))

pub wheel-finished-range : (posted : ℤ) (s a : ℕ) (w i : ℤ) → in_range 0 20000000000 posted ≡ true → is_quantity s ≡ true → is_quantity a ≡ true → is_price w ≡ true → is_price i ≡ true → Range 1300000000000 1300000000000 (wheel_finished posted s a w i)
unfolding wheel_finished
wheel-finished-range posted s a w i hr hs ha hw hi =
    let s≤ = leb-true s 640000 hs in
    let a≤ = leb-true a 640000 ha in
    let by = wheel-by posted (w -ℤ i) (s - a) (a - s) (range-true 0 20000000000 posted hr) (range-sub (priced w hw) (priced i hi)) (omega arith) (omega arith) (one-is-none s a) in
    rw (max-gap s a, max-gap a s) by

-- ---- by kind

-- what a wheel's schedule passes, being at most its bid MWh
wheel-mwh : (kind s : ℕ) → kind ≡ wheel → bid_mwh_fits (rules_of kind) s ≡ true → is_point_mwh s ≡ true
wheel-mwh kind s e h = subst (λ (r : Rules). bid_mwh_fits r s ≡ true) (rules-4 kind e) h

-- 01, 'a book is sound': a posted requirement is in the range of stage 2
pub posted-bounded : (kind differential : ℕ) (exempt : Bool) (schedule : ℕ) (price second : ℤ) → None (kind_row kind ∷ posted_rows kind differential schedule price second) → bid_mwh_fits (rules_of kind) schedule ≡ true → pending_fits (rules_of kind) (posted_requirement kind differential exempt schedule price second) ≡ true
unfolding None posted_requirement
posted-bounded kind differential exempt schedule price second h fits =
    let g = posting kind differential schedule price second h.1 in
    by-kind (λ (z : ℤ). pending_fits (rules_of kind) z ≡ true) kind _ _ _ _ _ _ _ (not-false (is_kind kind) h.0)
    (λ e. pending-range kind _ import_rules 640000000000 (rules-1 kind e) refl (exempt-range exempt _ _ (import-posted-range schedule differential g.schedule g.differential)))
    (λ e. pending-range kind _ export_rules 640000000000 (rules-2 kind e) refl (export-posted-range schedule price differential g.schedule g.prices.first g.differential))
    (λ e. pending-range kind (pos 0) hour_ahead_rules 640000000000 (rules-3 kind e) refl (range-wider nothing (omega arith) (omega arith)))
    (λ e. pending-range kind _ wheel_rules 20000000000 (rules-4 kind e) refl (wheel-posted-range schedule price second (wheel-mwh kind schedule e fits) g.prices.first g.prices.second))
    (λ e. pending-range kind (pos 0) quarter_hour_rules 640000000000 (rules-5 kind e) refl (range-wider nothing (omega arith) (omega arith)))
    (λ e. pending-range kind (pos 0) virtual_rules 640000000000 (rules-6 kind e) refl (range-wider nothing (omega arith) (omega arith)))

-- 01, 'a book is sound': a finished requirement is within 1,300,000,000,000 of zero
pub finished-bounded : (kind : ℕ) (exempt : Bool) (schedule : ℕ) (day_ahead posted : ℤ) (actual : ℕ) (price second : ℤ) → None (kind_row kind ∷ finished_rows kind schedule day_ahead posted actual price second) → is_finished (finished_requirement kind exempt schedule day_ahead posted actual price second) ≡ true
unfolding None finished_requirement
finished-bounded kind exempt schedule day_ahead posted actual price second h =
    let g = finish kind schedule day_ahead posted actual price second h.1 in
    let bid = pending-bid kind posted g.pending in
    range-test 1300000000000 1300000000000 _
    (by-kind (Range 1300000000000 1300000000000) kind _ _ _ _ _ _ _ (not-false (is_kind kind) h.0)
    (λ e. range-wider (exempt-range exempt _ _ (import-finished-range schedule day_ahead actual price g.schedule g.kept g.actual g.prices.first)) (omega arith) (omega arith))
    (λ e. range-wider (export-finished-range posted schedule actual price bid g.schedule g.actual g.prices.first) (omega arith) (omega arith))
    (λ e. range-wider (hour-ahead-finished-range actual price g.actual g.prices.first) (omega arith) (omega arith))
    (λ e. wheel-finished-range posted schedule actual price second (pending-wheel kind posted e g.pending) g.schedule g.actual g.prices.first g.prices.second)
    (λ e. range-wider (hour-ahead-finished-range actual price g.actual g.prices.first) (omega arith) (omega arith))
    (λ e. range-wider nothing (omega arith) (omega arith)))

-- and the range is no wider than it must be: a wheel of 640,000 MWh above its schedule is at its end
pub finished-met : None (kind_row wheel ∷ finished_rows wheel 0 (pos 0) (pos 20000000000) 640000 (pos 1000000) (neg_ℤ (pos 1000000))) × (finished_requirement wheel false 0 (pos 0) (pos 20000000000) 640000 (pos 1000000) (neg_ℤ (pos 1000000)) ≡ pos 1300000000000)
unfolding None finished_rows finished_requirement by_kind rules_of wheel_finished
finished-met = ((refl, (refl, (refl, (refl, tt)))), refl)

-- ---- what an entry answers, by whether a row applies
pub posted-accepted : (kind differential : ℕ) (exempt : Bool) (schedule : ℕ) (price second : ℤ) → None (kind_row kind ∷ posted_rows kind differential schedule price second) → posted_verdict kind differential exempt schedule price second ≡ accept (posted_requirement kind differential exempt schedule price second)
unfolding posted_verdict
posted-accepted kind differential exempt schedule price second h =
    judge-none (kind_row kind ∷ posted_rows kind differential schedule price second) (posted_requirement kind differential exempt schedule price second) h

pub posted-refused : (kind differential : ℕ) (exempt : Bool) (schedule : ℕ) (price second : ℤ) → (first (kind_row kind ∷ posted_rows kind differential schedule price second) ≡ 0 → ⊥) → posted_verdict kind differential exempt schedule price second ≡ refuse (first (kind_row kind ∷ posted_rows kind differential schedule price second))
unfolding posted_verdict judge
posted-refused kind differential exempt schedule price second h =
    answered-some (first (kind_row kind ∷ posted_rows kind differential schedule price second)) (posted_requirement kind differential exempt schedule price second) h

pub finished-accepted : (kind : ℕ) (exempt : Bool) (schedule : ℕ) (day_ahead posted : ℤ) (actual : ℕ) (price second : ℤ) → None (kind_row kind ∷ finished_rows kind schedule day_ahead posted actual price second) → finished_verdict kind exempt schedule day_ahead posted actual price second ≡ accept (finished_requirement kind exempt schedule day_ahead posted actual price second)
unfolding finished_verdict
finished-accepted kind exempt schedule day_ahead posted actual price second h =
    judge-none (kind_row kind ∷ finished_rows kind schedule day_ahead posted actual price second) (finished_requirement kind exempt schedule day_ahead posted actual price second) h

pub finished-refused : (kind : ℕ) (exempt : Bool) (schedule : ℕ) (day_ahead posted : ℤ) (actual : ℕ) (price second : ℤ) → (first (kind_row kind ∷ finished_rows kind schedule day_ahead posted actual price second) ≡ 0 → ⊥) → finished_verdict kind exempt schedule day_ahead posted actual price second ≡ refuse (first (kind_row kind ∷ finished_rows kind schedule day_ahead posted actual price second))
unfolding finished_verdict judge
finished-refused kind exempt schedule day_ahead posted actual price second h =
    answered-some (first (kind_row kind ∷ finished_rows kind schedule day_ahead posted actual price second)) (finished_requirement kind exempt schedule day_ahead posted actual price second) h

pub billed-accepted : (amount : ℤ) → None (bill_rows amount) → billed_verdict amount ≡ accept amount
unfolding billed_verdict
billed-accepted amount h = judge-none (bill_rows amount) amount h

pub billed-refused : (amount : ℤ) → (first (bill_rows amount) ≡ 0 → ⊥) → billed_verdict amount ≡ refuse (first (bill_rows amount))
unfolding billed_verdict judge
billed-refused amount h = answered-some (first (bill_rows amount)) amount h
