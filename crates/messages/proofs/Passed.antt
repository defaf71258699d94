-- What it says of a message and of the record under its key that none of the message's rows applies.
-- Assumes nothing.
use mathlib.Core.Path.{◌≡◌, refl, sym, ap, subst, ◌∙◌}
use mathlib.Core.Bool.{Bool, true, false, not, ◌&&◌, ◌||◌}
use mathlib.Core.List.{List, [], ◌∷◌, ◌++◌}
use mathlib.Core.Logic.{◌⊎◌, inl, inr, ⊎_elim}
use Prim.Native.Nat.{ℕ, ◌≤◌}
use native.Mathlib.Omega.{arith}
use lib.Dec.{leb, eqb}
use lib.IntN.{ℤ}
use borrow.Author.Tests.{leb-true, eqb-true, not-false}
use Rattle.amounts.specs.Limits.{is_quantity, is_price, is_differential, is_nil, is_bill}
use Rattle.refusals.specs.Refusals.{row, None}
use Rattle.refusals.proofs.Laws.{never, and_left, and_right, and_both, none-split}
use Rattle.kinds.specs.Kinds.{virtual, is_kind, kind_row, is_path, is_scheduled, bid_mwh_fits, differential_fits, prices_fit, has_stage, rules_of, by_kind, bid_stage, posted_stage, never as unposted}
use Rattle.bids.specs.Rows.{bid_rows}
use Rattle.deliveries.specs.Rows.{delivery_rows, posted_rows, finished_rows, bill_rows}
use Rattle.intervals.specs.Intervals.{curves_rows}
use Rattle.virtuals.specs.Virtuals.{no_supply, is_side_mwh, is_no_supply, supply_fits, side_rows, mwh_rows}
use Rattle.virtuals.specs.declared.Supply.{Supply}
use Rattle.virtuals.proofs.Laws.{no-supply-eq}
use Rattle.kinds.specs.declared.Rules.{Rules}
use Rattle.kinds.proofs.ByKind.{rules-6}
use Rattle.keys.specs.declared.Key.{Key}
use Rattle.keys.specs.Keys.{is_hour, key_fits, key_rows}
use Rattle.records.specs.declared.types.Record.{Record}
use Rattle.records.specs.Records.{blank, is_free, at, ok_place, implies, ok_record}
use Rattle.messages.specs.Plan.{Opening, Posting, Finishing, Curves, Sides, SidesPosting, Open, Revise, Post, Finish, OpenCurves, ReviseCurves, OpenSides, ReviseSides, PostSides, zone_key, posted_side, stage_rows, plan_rows}
use Rattle.kinds.proofs.Fits.{prices as priced}
use Rattle.records.proofs.Clauses.{Clauses, clauses}
use Rattle.keys.proofs.Laws.{key-kind}
use Rattle.records.proofs.Places.{free-blank, at_key, at-used, place-used}
use Rattle.records.proofs.Bounds.{pending-fits}
use Rattle.messages.proofs.Stages.{posted-next, finished_from, mwh-quantity, schedule-fits}

-- ---- the record under a key: blank, or a sound record of that key
abbrev pub Under : Key → Record → Type 0
Under k old = (old ≡ blank) ⊎ ((ok_record old ≡ true) × (old.key ≡ k))

pub under-blank : (k : Key) → Under k blank
under-blank k = inl refl

-- the record that stands open under a key in a sound place
pub under_at : (k : Key) (r : Record) → ok_place r ≡ true → at k r ≡ true → Under k r
under_at k r h e = inr (place-used r h (at-used k r e), sym (at_key k r e))

-- a record under a key that is not blank
pub record Stands (k : Key) (old : Record) : Type 0 where
  pub used : is_free old ≡ false
  pub own : old.key ≡ k
  pub clauses : Clauses old

stands : (k : Key) (old : Record) → Under k old → is_free old ≡ false → Stands k old
stands k old u e =
    ⊎_elim (λ b. never (sym e ∙ ap is_free b ∙ free-blank)) (λ o. record { used = e; own = o.1; clauses = clauses old o.0 }) u

-- what kind 6 decides
two-sides : (kind : ℕ) → kind ≡ virtual → (rules_of kind).sides ≡ true
unfolding rules_of by_kind
two-sides kind e = rw e

side-differential : (kind d : ℕ) → kind ≡ virtual → differential_fits (rules_of kind) d ≡ true → is_differential d ≡ true
side-differential kind d e h = subst (λ (r : Rules). differential_fits r d ≡ true) (rules-6 kind e) h

-- a supply side that is none fits too
either-fits : (s : Supply) (t : Bool) → t ≡ true → (t && supply_fits s || is_no_supply s) ≡ true → supply_fits s ≡ true
either-fits s t e h = by (supply_fits s) refl (rw e at h)
  where
    by : (f : Bool) → supply_fits s ≡ f → (true && supply_fits s || is_no_supply s) ≡ true → supply_fits s ≡ true
    by true f k = f
    by false f k =
        let none : s ≡ no_supply = no-supply-eq s (subst (λ (b : Bool). (true && b || is_no_supply s) ≡ true) f k) in
        subst (λ (x : Supply). supply_fits x ≡ true) (sym none) refl

-- ---- the rows of each message

-- 2 to 4
key-passed : (k : Key) → None (key_rows k) → key_fits k ≡ true
unfolding None key_rows
key-passed k h =
    let path = is_path (rules_of k.kind) k.path in
    and_both (is_kind k.kind && path) (is_hour k.hour)
    (and_both (is_kind k.kind) path (not-false (is_kind k.kind) h.0) (not-false path h.1.0))
    (not-false (is_hour k.hour) h.1.1.0)

pub record StagePassed (k : Key) (old : Record) (right : Bool) : Type 0 where
  pub key : key_fits k ≡ true
  pub stands : Stands k old
  pub stage : right ≡ true

-- 11 and 12
stage-rows : (k : Key) (old : Record) (right : Bool) → key_fits k ≡ true → Under k old → None (stage_rows old right) → StagePassed k old right
unfolding None stage_rows
stage-rows k old right key u h = record { key = key; stands = stands k old u h.0; stage = not-false right h.1.0 }

-- withdraw and pay
pub stage-passed : (k : Key) (old : Record) (right : Bool) → Under k old → None (key_rows k ++ stage_rows old right) → StagePassed k old right
stage-passed k old right u h =
    let s = none-split (key_rows k) (stage_rows old right) h in stage-rows k old right (key-passed k s.0) u s.1

pub record BidPassed (o : Opening) (ms : List ℕ) (ps : List ℤ) : Type 0 where
  pub key : key_fits o.key ≡ true
  pub rows : None (kind_row o.key.kind ∷ bid_rows o.key.kind ms ps o.differential)

bid-rows : (o : Opening) (ms : List ℕ) (ps : List ℤ) → None (key_rows o.key) → None (bid_rows o.key.kind ms ps o.differential) → BidPassed o ms ps
unfolding None
bid-rows o ms ps h b = let key = key-passed o.key h in record { key = key; rows = (ap not (key-kind o.key key), b) }

pub open-passed : (old : Record) (o : Opening) (ms : List ℕ) (ps : List ℤ) → None (plan_rows old (Open o) ms ps) → BidPassed o ms ps × (is_free old ≡ true)
unfolding None
open-passed old o ms ps h =
    let bid = bid_rows o.key.kind ms ps o.differential in
    let free = row 10 (not (is_free old)) ∷ [] in
    let a = none-split (key_rows o.key) (bid ++ free) h in
    let b = none-split bid free a.1 in
    (bid-rows o ms ps a.0 b.0, not-false (is_free old) b.1.0)

pub revise-passed : (old : Record) (o : Opening) (ms : List ℕ) (ps : List ℤ) → Under o.key old → None (plan_rows old (Revise o) ms ps)
    → BidPassed o ms ps × StagePassed o.key old (eqb old.stage bid_stage)
revise-passed old o ms ps u h =
    let bid = bid_rows o.key.kind ms ps o.differential in
    let stage = stage_rows old (eqb old.stage bid_stage) in
    let a = none-split (key_rows o.key) (bid ++ stage) h in
    let b = none-split bid stage a.1 in
    let passed = bid-rows o ms ps a.0 b.0 in
    (passed, stage-rows o.key old (eqb old.stage bid_stage) passed.key u b.1)

-- 02, order 3: four curves
pub record CurvesPassed (c : Curves) (ms : List ℕ) (ps : List ℤ) : Type 0 where
  pub key : key_fits c.key ≡ true
  pub rows : None (kind_row c.key.kind ∷ curves_rows c.key.kind c.counts ms ps)

curves-passed : (c : Curves) (ms : List ℕ) (ps : List ℤ) → None (key_rows c.key) → None (curves_rows c.key.kind c.counts ms ps) → CurvesPassed c ms ps
unfolding None
curves-passed c ms ps h b = let key = key-passed c.key h in record { key = key; rows = (ap not (key-kind c.key key), b) }

pub open-curves-passed : (old : Record) (c : Curves) (ms : List ℕ) (ps : List ℤ) → None (plan_rows old (OpenCurves c) ms ps) → CurvesPassed c ms ps × (is_free old ≡ true)
unfolding None
open-curves-passed old c ms ps h =
    let curves = curves_rows c.key.kind c.counts ms ps in
    let free = row 10 (not (is_free old)) ∷ [] in
    let a = none-split (key_rows c.key) (curves ++ free) h in
    let b = none-split curves free a.1 in
    (curves-passed c ms ps a.0 b.0, not-false (is_free old) b.1.0)

pub revise-curves-passed : (old : Record) (c : Curves) (ms : List ℕ) (ps : List ℤ) → Under c.key old → None (plan_rows old (ReviseCurves c) ms ps)
    → CurvesPassed c ms ps × StagePassed c.key old (eqb old.stage bid_stage)
revise-curves-passed old c ms ps u h =
    let curves = curves_rows c.key.kind c.counts ms ps in
    let stage = stage_rows old (eqb old.stage bid_stage) in
    let a = none-split (key_rows c.key) (curves ++ stage) h in
    let b = none-split curves stage a.1 in
    let passed = curves-passed c ms ps a.0 b.0 in
    (passed, stage-rows c.key old (eqb old.stage bid_stage) passed.key u b.1)

-- 02, order 6: two sides
pub record SidesPassed (s : Sides) : Type 0 where
  pub key : key_fits (zone_key s.zone s.hour) ≡ true
  pub rows : None (side_rows s.load s.supply)

pub open-sides-passed : (old : Record) (s : Sides) (ms : List ℕ) (ps : List ℤ) → None (plan_rows old (OpenSides s) ms ps) → SidesPassed s × (is_free old ≡ true)
unfolding None
open-sides-passed old s ms ps h =
    let key = zone_key s.zone s.hour in
    let sides = side_rows s.load s.supply in
    let free = row 10 (not (is_free old)) ∷ [] in
    let a = none-split (key_rows key) (sides ++ free) h in
    let b = none-split sides free a.1 in
    (record { key = key-passed key a.0; rows = b.0 }, not-false (is_free old) b.1.0)

pub revise-sides-passed : (old : Record) (s : Sides) (ms : List ℕ) (ps : List ℤ) → Under (zone_key s.zone s.hour) old → None (plan_rows old (ReviseSides s) ms ps)
    → SidesPassed s × StagePassed (zone_key s.zone s.hour) old (eqb old.stage bid_stage)
revise-sides-passed old s ms ps u h =
    let key = zone_key s.zone s.hour in
    let sides = side_rows s.load s.supply in
    let stage = stage_rows old (eqb old.stage bid_stage) in
    let a = none-split (key_rows key) (sides ++ stage) h in
    let b = none-split sides stage a.1 in
    let fits = key-passed key a.0 in
    (record { key = fits; rows = b.0 }, stage-rows key old (eqb old.stage bid_stage) fits u b.1)

-- a record of kind 6 has a supply side that fits
sides-kept : (old : Record) → old.key.kind ≡ virtual → Clauses old → supply_fits old.supply ≡ true
sides-kept old e c =
    let fit = supply_fits old.supply in
    let none = is_no_supply old.supply in
    let rules = rules_of old.key.kind in
    let kept : (rules.sides && fit || none) ≡ true = and_left (rules.sides && fit || none) (implies (eqb old.stage bid_stage) (eqb old.supply.schedule 0)) c.sides in
    either-fits old.supply rules.sides (two-sides old.key.kind e) kept

pub record PostSidesPassed (old : Record) (p : SidesPosting) : Type 0 where
  pub stands : Stands (zone_key p.zone p.hour) old
  pub stage : eqb old.stage bid_stage ≡ true
  pub kept : supply_fits old.supply ≡ true
  pub load : leb p.load old.mwh ≡ true
  pub supply : leb p.supply old.supply.mwh ≡ true
  pub rows : None (side_rows (posted_side p.load old.differential) (posted_side p.supply old.supply.differential))

pub post-sides-passed : (old : Record) (p : SidesPosting) (ms : List ℕ) (ps : List ℤ) → Under (zone_key p.zone p.hour) old → None (plan_rows old (PostSides p) ms ps) → PostSidesPassed old p
unfolding None side_rows mwh_rows
post-sides-passed old p ms ps u h =
    let key = zone_key p.zone p.hour in
    let both = leb p.load old.mwh && leb p.supply old.supply.mwh in
    let stage = stage_rows old (eqb old.stage bid_stage) in
    let last = row 13 (not both) ∷ [] in
    let a = none-split (key_rows key) (mwh_rows p.load p.supply ++ (stage ++ last)) h in
    let b = none-split (mwh_rows p.load p.supply) (stage ++ last) a.1 in
    let c = none-split stage last b.1 in
    let passed = stage-rows key old (eqb old.stage bid_stage) (key-passed key a.0) u c.0 in
    let clause = passed.stands.clauses in
    let own : old.key.kind ≡ virtual = ap (λ (k : Key). k.kind) passed.stands.own in
    let kept = sides-kept old own clause in
    let most = not-false both c.1.0 in
    let two = and_left (is_side_mwh old.supply.mwh && is_differential old.supply.differential) (leb old.supply.schedule old.supply.mwh) kept in
    record {
      stands = passed.stands;
      stage = passed.stage;
      kept = kept;
      load = and_left (leb p.load old.mwh) (leb p.supply old.supply.mwh) most;
      supply = and_right (leb p.load old.mwh) (leb p.supply old.supply.mwh) most;
      rows = (
        b.0.0,
        (ap not (and_both (is_differential old.differential) (is_differential old.supply.differential) (side-differential old.key.kind old.differential own clause.differential) (and_right (is_side_mwh old.supply.mwh) (is_differential old.supply.differential) two)), tt),
      );
    }

pub record PostPassed (old : Record) (p : Posting) : Type 0 where
  pub stands : Stands p.key old
  pub posts : eqb (rules_of old.key.kind).posted unposted ≡ false
  pub next : has_stage (rules_of old.key.kind) posted_stage ≡ true
  pub schedule : leb p.schedule old.mwh ≡ true
  pub mwh : bid_mwh_fits (rules_of old.key.kind) p.schedule ≡ true
  pub price : is_price p.price ≡ true
  pub rows : None (kind_row old.key.kind ∷ posted_rows old.key.kind old.differential p.schedule p.price p.second)

-- no open record stands at the stage of what is never posted
open-stage : (old : Record) (stage : ℕ) → is_free old ≡ false → eqb old.stage stage ≡ true → eqb stage unposted ≡ false
unfolding is_free
open-stage old stage used e = rw (← eqb-true old.stage stage e) used

pub post-passed : (old : Record) (p : Posting) (ms : List ℕ) (ps : List ℤ) → Under p.key old → None (plan_rows old (Post p) ms ps) → PostPassed old p
unfolding None key_rows delivery_rows stage_rows posted_rows
post-passed old p ms ps u h =
    let s = stands p.key old u h.1.1.1.1.1.0 in
    let own : old.key.kind ≡ p.key.kind = ap (λ (k : Key). k.kind) s.own in
    let kind = key-kind old.key s.clauses.key in
    let right = not-false (eqb old.stage (rules_of p.key.kind).posted) h.1.1.1.1.1.1.0 in
    let posts : eqb (rules_of old.key.kind).posted unposted ≡ false = rw own (open-stage old (rules_of p.key.kind).posted s.used right) in
    let most = not-false (leb p.schedule old.mwh) h.1.1.1.1.1.1.1.0 in
    let prices : prices_fit (rules_of old.key.kind) p.price p.second ≡ true =
    rw own (not-false (prices_fit (rules_of p.key.kind) p.price p.second) h.1.1.1.1.0) in
    record {
      stands = s;
      posts = posts;
      next = posted-next old.key.kind kind posts;
      schedule = most;
      mwh = schedule-fits (rules_of old.key.kind) old.mwh p.schedule s.clauses.mwh (leb-true p.schedule old.mwh most);
      price = (priced (rules_of old.key.kind) p.price p.second prices).first;
      rows =
          (ap not kind, (h.1.1.1.0, (ap not prices, (ap not s.clauses.differential, (posts, tt)))));
    }

pub record FinishPassed (old : Record) (f : Finishing) : Type 0 where
  pub stands : Stands f.key old
  pub finishes : eqb (rules_of old.key.kind).finished unposted ≡ false
  pub rows : None (kind_row old.key.kind ∷ finished_rows old.key.kind old.schedule old.price old.requirement f.actual f.price f.second)

pub finish-passed : (old : Record) (f : Finishing) (ms : List ℕ) (ps : List ℤ) → Under f.key old → None (plan_rows old (Finish f) ms ps) → FinishPassed old f
unfolding None key_rows delivery_rows stage_rows finished_rows
finish-passed old f ms ps u h =
    let s = stands f.key old u h.1.1.1.1.1.0 in
    let own : old.key.kind ≡ f.key.kind = ap (λ (k : Key). k.kind) s.own in
    let kind = key-kind old.key s.clauses.key in
    let rules = rules_of old.key.kind in
    let right : eqb old.stage (rules_of old.key.kind).finished ≡ true =
    rw own (not-false (eqb old.stage (rules_of f.key.kind).finished) h.1.1.1.1.1.1.0) in
    let prices : prices_fit (rules_of old.key.kind) f.price f.second ≡ true =
    rw own (not-false (prices_fit (rules_of f.key.kind) f.price f.second) h.1.1.1.1.0) in
    let early : old.stage ≤ posted_stage = omega (arith, eqb-true old.stage (rules_of old.key.kind).finished right, finished_from old.key.kind kind) in
    let pending = pending-fits old.key.kind old.stage old.requirement s.clauses.requirement early in
    let unset = implies (eqb old.stage bid_stage || not (is_scheduled rules)) (eqb old.schedule 0) in
    let most = leb-true old.schedule old.mwh (and_left (leb old.schedule old.mwh) unset s.clauses.schedule) in
    let schedule = mwh-quantity old.key.kind old.schedule (schedule-fits rules old.mwh old.schedule s.clauses.mwh most) in
    let actual = not-false (is_quantity f.actual) h.1.1.1.0 in
    let price = and_left (is_price old.price) (rules.dayahead && leb posted_stage old.stage || is_nil old.price) s.clauses.day_ahead in
    record {
      stands = s;
      finishes = open-stage old (rules_of old.key.kind).finished s.used right;
      rows = (
        ap not kind,
        (
          ap not (and_both (is_quantity old.schedule) (is_quantity f.actual) schedule actual),
          (ap not (and_both (is_price old.price) (prices_fit rules f.price f.second) price prices), (ap not pending, tt)),
        ),
      );
    }

pub bill-passed : (k : Key) (cents : ℤ) (old : Record) → Under k old → None (key_rows k ++ (bill_rows cents ++ stage_rows old (eqb old.stage (rules_of k.kind).billed)))
    → StagePassed k old (eqb old.stage (rules_of k.kind).billed) × (is_bill cents ≡ true)
unfolding None bill_rows
bill-passed k cents old u h =
    let right = eqb old.stage (rules_of k.kind).billed in
    let a = none-split (key_rows k) (bill_rows cents ++ stage_rows old right) h in
    (stage-rows k old right (key-passed k a.0) u a.1.1, not-false (is_bill cents) a.1.0)
