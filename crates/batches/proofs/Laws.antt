-- What a close makes of the places of a book: each stays sound, what is open stays or is removed, held moves by the batch's cents and net owed not at all.
-- Assumes nothing.
use mathlib.Core.Path.{◌≡◌, refl, sym, ap, ◌∙◌, subst}
use mathlib.Core.Bool.{Bool, true, false, not, cond, ◌&&◌, ◌||◌}
use mathlib.Core.List.{List, map}
use Prim.Native.Nat.{ℕ, ◌*◌, ◌≤◌}
use native.Mathlib.Omega.{arith}
use borrow.Author.Tests.{eqb-true}
use lib.Dec.{leb, eqb}
use lib.IntN.{ℤ, pos, ◌+ℤ◌, +ℤ_idl, +ℤ_idr}
use lib.ListN.{length, get_or}
use Rattle.amounts.specs.Amount.{Range}
use Rattle.amounts.specs.Limits.{is_price, is_nil}
use Rattle.amounts.specs.Lists.{total, every}
use Rattle.amounts.proofs.Sums.{range-total}
use Rattle.refusals.proofs.Laws.{never, and_left, and_right, and_both}
use Rattle.kinds.specs.declared.Rules.{Rules}
use Rattle.kinds.specs.Kinds.{quarter_hour, bid_stage, posted_stage, billed_stage, has_stage, is_scheduled, pending_fits, quarter_hour_rules, rules_of}
use Rattle.kinds.proofs.ByKind.{rules-5}
use Rattle.kinds.proofs.Fits.{pending-range}
use Rattle.keys.specs.declared.Key.{Key}
use Rattle.intervals.specs.Intervals.{intervals_fit, is_none}
use Rattle.closings.proofs.Laws.{closed-range}
use Rattle.records.specs.declared.types.Record.{Record}
use Rattle.records.specs.Records.{blank, is_free, at, is_pending, implies, ok_record, ok_place}
use Rattle.records.proofs.Clauses.{or_right, implied, clauses}
use Rattle.records.proofs.Places.{nil-eq, at-blank, place-used, ok-place, ok-blank}
use Rattle.records.proofs.Made.{advanced-ok}
use Rattle.credit.specs.Credit.{owes}
use Rattle.batches.specs.Batches.{closed_for, brings, batch_cents, closed_record, batched}
use Rattle.batches.proofs.Mapped.{sum-map, every_map, sum_same, total-add, total-none}

-- ---- a pending bid
pub record Pending (h : ℕ) (r : Record) : Type 0 where
  pub kind : r.key.kind ≡ quarter_hour
  pub hour : r.key.hour ≡ h
  pub stage : r.stage ≡ bid_stage
  pub used : is_free r ≡ false

module _ (hour : ℕ) (r : Record) (p : is_pending hour r ≡ true) where
  abbrev kinds : Bool
  kinds = eqb r.key.kind quarter_hour

  abbrev hours : Bool
  hours = eqb r.key.hour hour

  abbrev stages : Bool
  stages = eqb r.stage bid_stage

  pub pending-is : Pending hour r
  unfolding is_pending is_free
  pending-is =
      let both = and_left (kinds && hours) stages p in
      let first : r.stage ≡ bid_stage = eqb-true r.stage bid_stage (and_right (kinds && hours) stages p) in
      record {
        kind = eqb-true r.key.kind quarter_hour (and_left kinds hours both);
        hour = eqb-true r.key.hour hour (and_right kinds hours both);
        stage = first;
        used = ap (λ (n : ℕ). eqb n 0) first;
      }

  pub pending-ok : ok_place r ≡ true → ok_record r ≡ true
  pending-ok h = place-used r h pending-is.used

  rules : rules_of r.key.kind ≡ quarter_hour_rules
  rules = rules-5 r.key.kind pending-is.kind

  -- 'On opening a bid is pending (stage 1), requirement 0'
  pub pending-nil : ok_place r ≡ true → r.requirement ≡ pos 0
  pending-nil h =
      let own = rules_of r.key.kind in
      let four = own.intervals in
      let both = and_both four (eqb r.stage bid_stage) (ap (λ (x : Rules). x.intervals) rules) (ap (λ (n : ℕ). eqb n bid_stage) pending-is.stage) in
      nil-eq r.requirement
      (implied (four && eqb r.stage bid_stage) (is_nil r.requirement)
      (and_right (four && intervals_fit r.intervals || is_none r.intervals) (implies (four && eqb r.stage bid_stage) (is_nil r.requirement)) (clauses r (pending-ok h)).quarters)
      both)

-- ---- and a bid that is closed
pub closed-for-range : (paths : List ℕ) (prices : List ℤ) (r : Record) → Range 0 640000000000 (closed_for paths prices r)
unfolding closed_for
closed-for-range paths prices r = closed-range r.intervals _

-- nothing is scheduled at stage 1, and nothing later
late-schedule : (a first posted nil : Bool) → first ≡ true → (a && implies (first || posted) nil) ≡ true → (a && implies posted nil) ≡ true
late-schedule a true posted nil e h = and_both a (implies posted nil) (and_left a nil h) (or_right (not posted) nil (and_right a nil h))
late-schedule a false posted nil e h = never e

-- a later stage asks no less of the price
either-late : (mark late nil : Bool) → (mark && late || nil) ≡ true → (mark && true || nil) ≡ true
either-late true late nil h = refl
either-late false late nil h = h

late-price : (a mark late nil : Bool) → (a && (mark && late || nil)) ≡ true → (a && (mark && true || nil)) ≡ true
late-price a mark late nil h =
    and_both a (mark && true || nil) (and_left a (mark && late || nil) h) (either-late mark late nil (and_right a (mark && late || nil) h))

alone : (a : Bool) → a ≡ true → (a && true && true) ≡ true
alone a h = rw h

pub closed-ok : (hour : ℕ) (paths : List ℕ) (prices : List ℤ) (r : Record) → is_pending hour r ≡ true → ok_place r ≡ true → ok_record (closed_record r (closed_for paths prices r)) ≡ true
closed-ok hour paths prices r p h =
    let c = clauses r (pending-ok hour r p h) in
    let own = rules_of r.key.kind in
    let z = closed_for paths prices r in
    advanced-ok r posted_stage r.schedule r.price z c (subst (λ (x : Rules). has_stage x posted_stage ≡ true) (sym (rules hour r p)) refl)
    (late-schedule (leb r.schedule r.mwh) (eqb r.stage bid_stage) (not (is_scheduled own)) (eqb r.schedule 0) (ap (λ (n : ℕ). eqb n bid_stage) (pending-is hour r p).stage) c.schedule)
    (late-price (is_price r.price) own.dayahead (leb posted_stage r.stage) (is_nil r.price) c.day_ahead)
    (alone (pending_fits own z) (pending-range r.key.kind z quarter_hour_rules 640000000000 (rules hour r p) refl (closed-for-range paths prices r)))
    refl

-- ---- what becomes of each place
module _ (too_much : Bool) (hour : ℕ) (paths : List ℕ) (prices : List ℤ) where
  -- by whether the batch is too much, and whether the bid is pending
  abbrev by : Bool → Bool → Record → Record
  by much pending r = cond pending (cond much blank (closed_record r (closed_for paths prices r))) r

  batched-by : (r : Record) → batched too_much hour paths prices r ≡ by too_much (is_pending hour r) r
  unfolding batched
  batched-by r = refl

  -- 'no other key is touched'
  pub batched-other : (r : Record) → is_pending hour r ≡ false → batched too_much hour paths prices r ≡ r
  batched-other r e = batched-by r ∙ ap (λ (b : Bool). by too_much b r) e

  pub batched-pending : (r : Record) → is_pending hour r ≡ true → batched too_much hour paths prices r ≡ cond too_much blank (closed_record r (closed_for paths prices r))
  batched-pending r e = batched-by r ∙ ap (λ (b : Bool). by too_much b r) e

  pub batched-blank : batched too_much hour paths prices blank ≡ blank
  unfolding is_pending
  batched-blank = batched-other blank refl

  -- ---- every place stays sound
  ok-by : (r : Record) (much b : Bool) → is_pending hour r ≡ b → ok_place r ≡ true → ok_place (by much b r) ≡ true
  ok-by r true true e h = ok-blank
  ok-by r false true e h = ok-place (closed_record r (closed_for paths prices r)) (closed-ok hour paths prices r e h)
  ok-by r true false e h = h
  ok-by r false false e h = h

  pub batched-ok : (r : Record) → ok_place r ≡ true → ok_place (batched too_much hour paths prices r) ≡ true
  batched-ok r h = ap ok_place (batched-by r) ∙ ok-by r too_much (is_pending hour r) refl h

  pub batched-every : (rs : List Record) → every ok_place rs ≡ true → every ok_place (map (batched too_much hour paths prices) rs) ≡ true
  batched-every rs h = every_map (batched too_much hour paths prices) ok_place batched-ok rs h

  -- ---- held and net owed
  requirement-by : (r : Record) (much b : Bool) → is_pending hour r ≡ b → ok_place r ≡ true
      → (by much b r).requirement ≡ r.requirement +ℤ cond much (pos 0) (cond b (closed_for paths prices r) (pos 0))
  requirement-by r true true e h = sym (pending-nil hour r e h) ∙ sym (+ℤ_idr r.requirement)
  requirement-by r false true e h =
      sym (+ℤ_idl (closed_for paths prices r)) ∙ ap (λ (z : ℤ). z +ℤ closed_for paths prices r) (sym (pending-nil hour r e h))
  requirement-by r true false e h = sym (+ℤ_idr r.requirement)
  requirement-by r false false e h = sym (+ℤ_idr r.requirement)

  -- held moves by what the bid brings, where it stays
  pub batched-requirement : (r : Record) → ok_place r ≡ true
      → (batched too_much hour paths prices r).requirement ≡ r.requirement +ℤ cond too_much (pos 0) (brings hour paths prices r)
  batched-requirement r h = ap (λ (x : Record). x.requirement) (batched-by r) ∙ requirement-by r too_much (is_pending hour r) refl h

  -- a pending bid owes nothing, and a closed one neither
  owes-by : (r : Record) (much b : Bool) → is_pending hour r ≡ b → owes (by much b r) ≡ owes r
  unfolding owes
  owes-by r true true e = sym (ap (λ (n : ℕ). cond (eqb n billed_stage) r.requirement (pos 0)) (pending-is hour r e).stage)
  owes-by r false true e = sym (ap (λ (n : ℕ). cond (eqb n billed_stage) r.requirement (pos 0)) (pending-is hour r e).stage)
  owes-by r true false e = refl
  owes-by r false false e = refl

  pub batched-owes : (r : Record) → owes (batched too_much hour paths prices r) ≡ owes r
  batched-owes r = ap owes (batched-by r) ∙ owes-by r too_much (is_pending hour r) refl

  cents-by : (much : Bool) (rs : List Record) → total (λ r. cond much (pos 0) (brings hour paths prices r)) rs ≡ cond much (pos 0) (batch_cents hour paths prices rs)
  unfolding batch_cents
  cents-by true rs = total-none rs
  cents-by false rs = refl

  pub batched-held : (rs : List Record) → every ok_place rs ≡ true
      → total (λ r. r.requirement) (map (batched too_much hour paths prices) rs) ≡ total (λ r. r.requirement) rs +ℤ cond too_much (pos 0) (batch_cents hour paths prices rs)
  batched-held rs h =
      sum-map (batched too_much hour paths prices) ◌+ℤ◌ (pos 0) (λ r. r.requirement) rs
      ∙ sum_same ◌+ℤ◌ (pos 0) ok_place (λ r. (batched too_much hour paths prices r).requirement) (λ r. r.requirement +ℤ cond too_much (pos 0) (brings hour paths prices r)) batched-requirement rs h
      ∙ total-add (λ r. r.requirement) (λ r. cond too_much (pos 0) (brings hour paths prices r)) rs
      ∙ ap (λ (z : ℤ). total (λ r. r.requirement) rs +ℤ z) (cents-by too_much rs)

  pub batched-owed : (rs : List Record) → every ok_place rs ≡ true → total owes (map (batched too_much hour paths prices) rs) ≡ total owes rs
  batched-owed rs h =
      sum-map (batched too_much hour paths prices) ◌+ℤ◌ (pos 0) owes rs
      ∙ sum_same ◌+ℤ◌ (pos 0) ok_place (λ r. owes (batched too_much hour paths prices r)) owes (λ r k. batched-owes r) rs h

-- ---- what stands open under a key

-- a bid that is moved keeps its key
moved_at : (k : Key) (r : Record) (z : ℤ) → is_free r ≡ false → at k (closed_record r z) ≡ at k r
unfolding at is_free
moved_at k r z used = rw (ap not used) refl

module _ (hour : ℕ) (paths : List ℕ) (prices : List ℤ) (k : Key) (r : Record) where
  stays_by : (b : Bool) → is_pending hour r ≡ b → at k (by false hour paths prices false b r) ≡ at k r
  stays_by true e = moved_at k r (closed_for paths prices r) (pending-is hour r e).used
  stays_by false e = refl

  -- a batch that stays: nothing is found elsewhere than before
  pub batched-stays : at k (batched false hour paths prices r) ≡ at k r
  batched-stays = ap (at k) (batched-by false hour paths prices r) ∙ stays_by (is_pending hour r) refl

  at-by : (much b : Bool) → is_pending hour r ≡ b → at k (by much hour paths prices much b r) ≡ true → at k r ≡ true
  at-by true true e h = never (sym (at-blank k) ∙ h)
  at-by true false e h = h
  at-by false b e h = sym (stays_by b e) ∙ h

  -- and one that is removed leaves no key where none was
  pub batched-at : (too_much : Bool) → at k (batched too_much hour paths prices r) ≡ true → at k r ≡ true
  batched-at too_much h = at-by too_much (is_pending hour r) refl (sym (ap (at k) (batched-by too_much hour paths prices r)) ∙ h)

-- ---- how large the batch is

module _ (hour : ℕ) (paths : List ℕ) (prices : List ℤ) where
  brings-by : (r : Record) (b : Bool) → Range 0 640000000000 (cond b (closed_for paths prices r) (pos 0))
  brings-by r true = closed-for-range paths prices r
  brings-by r false = omega arith

  pub brings-range : (r : Record) → Range 0 640000000000 (brings hour paths prices r)
  brings-range r = brings-by r (is_pending hour r)

  pub batch-most : (rs : List Record) → Range 0 (length rs * 640000000000) (batch_cents hour paths prices rs)
  unfolding batch_cents
  batch-most rs =
      let all = range-total (brings hour paths prices) blank 0 640000000000 rs (λ k lt. brings-range (get_or rs k blank)) in
      omega (arith, all.low, all.high)

  pub batch-range : (rs : List Record) → length rs ≤ 256 → Range 0 163840000000000 (batch_cents hour paths prices rs)
  batch-range rs few = let all = batch-most rs in omega (arith, all.low, all.high)
