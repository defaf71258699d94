-- Free places, and the record that stands open under a key.
-- Assumes nothing.
use mathlib.Core.Path.{◌≡◌, refl, sym, ap, ◌∙◌}
use mathlib.Core.Bool.{Bool, true, false, not, ◌&&◌, ◌||◌}
use mathlib.Core.Logic.{⊎_elim}
use Prim.Native.Nat.{ℕ, ◌≤◌}
use native.Mathlib.Omega.{arith}
use lib.Dec.{leb, eqb}
use lib.IntN.{ℤ, pos}
use borrow.Author.Tests.{leb-true, eqb-true, ne_eqb, not-true}
use Rattle.amounts.specs.Limits.{between, is_nil}
use Rattle.amounts.proofs.Signed.{signed, range-true}
use Rattle.refusals.proofs.Laws.{never, and_left, and_right}
use Rattle.kinds.specs.declared.Rules.{Rules}
use Rattle.kinds.specs.Kinds.{bid_stage, posted_stage, finished_stage, billed_stage, has_stage, rules_of}
use Rattle.keys.specs.declared.Key.{Key}
use Rattle.keys.specs.Keys.{same_key}
use Rattle.keys.proofs.Laws.{by-test, same_key-eq, same_key-refl}
use Rattle.intervals.specs.Intervals.{is_none}
use Rattle.intervals.proofs.Laws.{none-eq}
use Rattle.virtuals.specs.Virtuals.{is_no_supply}
use Rattle.virtuals.proofs.Laws.{no-supply-eq}
use Rattle.records.specs.Records.{Record, blank, is_blank, is_free, at, ok_record, ok_place}
use Rattle.records.proofs.Clauses.{either, or_right, clauses}

-- ---- a free place is zero throughout
pub nil-eq : (z : ℤ) → is_nil z ≡ true → z ≡ pos 0
nil-eq z h = let r = range-true 0 0 z h in omega (arith, signed)

module _ (r : Record) where
  abbrev to-path : Bool
  to-path = eqb r.key.kind 0 && eqb r.key.path 0

  abbrev to-hour : Bool
  to-hour = to-path && eqb r.key.hour 0

  abbrev to-stage : Bool
  to-stage = to-hour && eqb r.stage 0

  abbrev to-mwh : Bool
  to-mwh = to-stage && eqb r.mwh 0

  abbrev to-differential : Bool
  to-differential = to-mwh && eqb r.differential 0

  abbrev to-exempt : Bool
  to-exempt = to-differential && not r.exempt

  abbrev to-schedule : Bool
  to-schedule = to-exempt && eqb r.schedule 0

  abbrev to-price : Bool
  to-price = to-schedule && is_nil r.price

  abbrev to-requirement : Bool
  to-requirement = to-price && is_nil r.requirement

  abbrev to-intervals : Bool
  to-intervals = to-requirement && is_none r.intervals

  pub blank-eq : is_blank r ≡ true → r ≡ blank
  unfolding is_blank
  blank-eq h =
      let h10 = and_left to-intervals (is_no_supply r.supply) h in
      let h9 = and_left to-requirement (is_none r.intervals) h10 in
      let h8 = and_left to-price (is_nil r.requirement) h9 in
      let h7 = and_left to-schedule (is_nil r.price) h8 in
      let h6 = and_left to-exempt (eqb r.schedule 0) h7 in
      let h5 = and_left to-differential (not r.exempt) h6 in
      let h4 = and_left to-mwh (eqb r.differential 0) h5 in
      let h3 = and_left to-stage (eqb r.mwh 0) h4 in
      let h2 = and_left to-hour (eqb r.stage 0) h3 in
      let h1 = and_left to-path (eqb r.key.hour 0) h2 in
      let kind = eqb-true r.key.kind 0 (and_left (eqb r.key.kind 0) (eqb r.key.path 0) h1) in
      let path = eqb-true r.key.path 0 (and_right (eqb r.key.kind 0) (eqb r.key.path 0) h1) in
      let hour = eqb-true r.key.hour 0 (and_right to-path (eqb r.key.hour 0) h2) in
      let stage = eqb-true r.stage 0 (and_right to-hour (eqb r.stage 0) h3) in
      let mwh = eqb-true r.mwh 0 (and_right to-stage (eqb r.mwh 0) h4) in
      let differential = eqb-true r.differential 0 (and_right to-mwh (eqb r.differential 0) h5) in
      let exempt = not-true r.exempt (and_right to-differential (not r.exempt) h6) in
      let schedule = eqb-true r.schedule 0 (and_right to-exempt (eqb r.schedule 0) h7) in
      let price = nil-eq r.price (and_right to-schedule (is_nil r.price) h8) in
      let requirement = nil-eq r.requirement (and_right to-price (is_nil r.requirement) h9) in
      let intervals = none-eq r.intervals (and_right to-requirement (is_none r.intervals) h10) in
      let supply = no-supply-eq r.supply (and_right to-intervals (is_no_supply r.supply) h) in
      λ i. record {
        key = record { kind = kind i; path = path i; hour = hour i };
        stage = stage i;
        mwh = mwh i;
        differential = differential i;
        exempt = exempt i;
        schedule = schedule i;
        price = price i;
        requirement = requirement i;
        intervals = intervals i;
        supply = supply i;
      }

pub blank-blank : is_blank blank ≡ true
unfolding is_blank
blank-blank = refl

pub free-blank : is_free blank ≡ true
unfolding is_free
free-blank = refl

-- ---- the record under a key
pub at-blank : (k : Key) → at k blank ≡ false
unfolding at is_free
at-blank k = refl

pub at_key : (k : Key) (r : Record) → at k r ≡ true → k ≡ r.key
unfolding at
at_key k r h = same_key-eq k r.key (and_right (not (is_free r)) (same_key k r.key) h)

pub at-used : (k : Key) (r : Record) → at k r ≡ true → is_free r ≡ false
unfolding at
at-used k r h = not-true (is_free r) (and_left (not (is_free r)) (same_key k r.key) h)

pub at_own : (k : Key) (r : Record) → r.key ≡ k → is_free r ≡ false → at k r ≡ true
unfolding at
at_own k r e h = rw (h, e) (same_key-refl k)

pub free-at : (k : Key) (r : Record) → is_free r ≡ true → at k r ≡ false
unfolding at
free-at k r h = rw h

is_false : (b : Bool) → (b ≡ true → false ≡ true) → b ≡ false
is_false true f = sym (f refl)
is_false false f = refl

pub at-apart : (k l : Key) (r : Record) → same_key k l ≡ false → at k r ≡ true → at l r ≡ false
at-apart k l r h e = is_false (at l r) (λ d. sym h ∙ ap (same_key k) (at_key l r d ∙ sym (at_key k r e)) ∙ same_key-refl k)

-- ---- a sound place is free and zero, or holds a sound record
stages : (rules : Rules) (stage : ℕ) → has_stage rules stage ≡ true → (bid_stage ≤ stage) × (stage ≤ billed_stage)
stages rules stage h =
    let all = between bid_stage billed_stage stage in
    let posts = not (eqb stage posted_stage) || (eqb rules.finished posted_stage || eqb rules.billed posted_stage) in
    let finishes = not (eqb stage finished_stage) || eqb rules.billed finished_stage in
    let both = and_left all posts (and_left (all && posts) finishes h) in
    (leb-true bid_stage stage (and_left (leb bid_stage stage) (leb stage billed_stage) both), leb-true stage billed_stage (and_right (leb bid_stage stage) (leb stage billed_stage) both))

pub stage-bounds : (r : Record) → ok_record r ≡ true → (bid_stage ≤ r.stage) × (r.stage ≤ billed_stage)
stage-bounds r h = stages (rules_of r.key.kind) r.stage (clauses r h).stage

pub ok-used : (r : Record) → ok_record r ≡ true → is_free r ≡ false
unfolding is_free
ok-used r h = ne_eqb r.stage 0 (λ e. omega (arith, (stage-bounds r h).0))

pub place-free : (r : Record) → ok_place r ≡ true → is_free r ≡ true → r ≡ blank
unfolding ok_place
place-free r h e = ⊎_elim (λ b. blank-eq r b) (λ o. never (sym (ok-used r o) ∙ e)) (either (is_blank r) (ok_record r) h)

pub place-used : (r : Record) → ok_place r ≡ true → is_free r ≡ false → ok_record r ≡ true
unfolding ok_place
place-used r h e =
    ⊎_elim (λ b. never (sym e ∙ ap is_free (blank-eq r b) ∙ free-blank)) (λ o. o) (either (is_blank r) (ok_record r) h)

pub ok-place : (r : Record) → ok_record r ≡ true → ok_place r ≡ true
unfolding ok_place
ok-place r h = or_right (is_blank r) (ok_record r) h

pub ok-blank : ok_place blank ≡ true
unfolding ok_place
ok-blank = rw blank-blank

-- one of the two tests is enough
pub free_place : (r : Record) → is_free r ≡ true → is_blank r ≡ ok_place r
unfolding ok_place
free_place r free =
    by-test (is_blank r) (is_blank r || ok_record r) (λ h. rw h) (λ h. ap is_blank (place-free r h free) ∙ blank-blank)

pub free-place : (r : Record) → is_free r ≡ true → is_blank r ≡ ok_place r
free-place r free = free_place r free

pub used_place : (r : Record) → is_free r ≡ false → ok_record r ≡ ok_place r
used_place r used = by-test (ok_record r) (ok_place r) (ok-place r) (λ h. place-used r h used)

pub used-place : (r : Record) → is_free r ≡ false → ok_record r ≡ ok_place r
used-place r used = used_place r used
