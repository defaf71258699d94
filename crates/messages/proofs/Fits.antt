-- Each accepted message asks for a change that fits the record under its key, and leaves a record that keeps every clause of soundness.
-- Assumes nothing.
use mathlib.Core.Path.{◌≡◌, refl, ap, subst}
use mathlib.Core.Bool.{Bool, true, false, not, cond, ◌&&◌, ◌||◌}
use mathlib.Core.List.{List}
use Prim.Native.Nat.{ℕ, ◌≤◌}
use lib.Dec.{leb, eqb}
use lib.IntN.{ℤ, pos}
use borrow.Author.Tests.{eqb-true, not-false}
use Rattle.amounts.specs.Limits.{is_price, is_nil, is_bill, is_support}
use Rattle.refusals.specs.Refusals.{None, accept}
use Rattle.refusals.proofs.Laws.{and_left, and_both, judge-accept}
use Rattle.kinds.specs.Kinds.{virtual, virtual_rules, bid_stage, posted_stage, finished_stage, billed_stage, has_stage, is_scheduled, by_kind, bid_mwh_fits, differential_fits, pending_fits, rules_of}
use Rattle.refusals.specs.declared.Bid.{Bid}
use Rattle.bids.proofs.Curves.{bid-bounded, mwh-bounded, fit-bid, one-curve}
use Rattle.intervals.specs.Intervals.{intervals_of}
use Rattle.intervals.proofs.Laws.{curves-kind, curves-fit}
use Rattle.closings.proofs.Laws.{close-fits}
use Rattle.virtuals.specs.Virtuals.{virtual_bid, virtual_posted}
use Rattle.virtuals.proofs.Laws.{fits as side-fits, bid-range, posted-range}
use Rattle.amounts.specs.Amount.{Range}
use Rattle.amounts.proofs.Signed.{range-wider}
use Rattle.kinds.proofs.ByKind.{rules-6}
use Rattle.kinds.proofs.Fits.{pending-range}
use native.Mathlib.Omega.{arith}
use Rattle.formulas.proofs.StageLaws.{posted-bounded, finished-bounded}
use Rattle.keys.specs.declared.Key.{Key}
use Rattle.keys.specs.Keys.{key_fits}
use Rattle.records.specs.declared.types.Record.{Record}
use Rattle.records.specs.Records.{pending_record, sides_record, sides_posted, is_free, implies, requirement_fits, ok_record}
use Rattle.messages.specs.Plan.{Message, Opening, Posting, Finishing, Curves, Deed, Open, Revise, Withdraw, Post, Finish, Bill, Pay, Support, OpenCurves, ReviseCurves, Close, OpenSides, ReviseSides, PostSides, Sides, SidesPosting, zone_key, posted_side, sides_for, sides_posted_for, Add, AddPending, Rebid, Advance, Remove, Keyed, SetSupport, CloseHour, opened_record, posted_record, later_record, bid_for, posted_for, finished_for, intervals_for, key_of, opens, deed_for, plan_rows, plan}
use Rattle.keys.proofs.Laws.{key-kind}
use Rattle.records.proofs.Made.{bid-ok, pending-ok, advanced-ok, Sided, sides-ok, sides-posted-ok}
use Rattle.messages.proofs.Stages.{finished-next, billed-next}
use Rattle.messages.proofs.Passed.{BidPassed, Stands, PostPassed, FinishPassed, open-passed, revise-passed, stage-passed, post-passed, finish-passed, bill-passed, CurvesPassed, open-curves-passed, revise-curves-passed, SidesPassed, open-sides-passed, revise-sides-passed, PostSidesPassed, post-sides-passed}
use Rattle.messages.proofs.Formulas.{bid-passed-is, posted-passed-is, finished-passed-is, intervals-passed-is, sides-passed-is, posted-sides-passed-is}
pub use Rattle.messages.proofs.Tables.{plan-rows-numbered}
pub use Rattle.messages.proofs.Passed.{Under, under-blank, under_at}

-- an open record of this key that keeps every clause
pub record Fine (k : Key) (r : Record) : Type 0 where
  pub own : r.key ≡ k
  pub used : is_free r ≡ false
  pub ok : ok_record r ≡ true

-- ---- what each change is held to; `old` is the record under the message's key

pub record Added (old : Record) (m : Message) (r : Record) : Type 0 where
  pub begins : opens m ≡ true
  pub free : is_free old ≡ true
  pub fine : Fine (key_of m) r
  pub bid : r.stage ≡ bid_stage

pub record Redone (old : Record) (m : Message) (z : ℤ) (r : Record) : Type 0 where
  pub later : opens m ≡ false
  pub used : is_free old ≡ false
  pub was : z ≡ old.requirement
  pub stage : old.stage ≡ bid_stage
  pub fine : Fine (key_of m) r
  pub bid : r.stage ≡ bid_stage

pub record Moved (old : Record) (m : Message) (r : Record) : Type 0 where
  pub later : opens m ≡ false
  pub used : is_free old ≡ false
  pub fine : Fine (key_of m) r

pub record Dropped (old : Record) (m : Message) (k : Key) : Type 0 where
  pub later : opens m ≡ false
  pub used : is_free old ≡ false
  pub own : k ≡ key_of m

-- 02, order 3: a bid that is pending has requirement 0, and only a kind of four curves is
pub record AddedPending (old : Record) (m : Message) (r : Record) : Type 0 where
  pub added : Added old m r
  pub four : (rules_of r.key.kind).intervals ≡ true
  pub nil : r.requirement ≡ pos 0

pub record Closes (m : Message) (hour : ℕ) : Type 0 where
  pub is : m ≡ Close (record { hour = hour })
  pub hour-high : hour ≤ 999999

abbrev pub Fits : Record → Message → Deed → Type 0
Fits old m (Keyed (Add r)) = Added old m r
Fits old m (Keyed (AddPending r)) = AddedPending old m r
Fits old m (Keyed (Rebid z r)) = Redone old m z r
Fits old m (Keyed (Advance r)) = Moved old m r
Fits old m (Keyed (Remove k)) = Dropped old m k
Fits old m (SetSupport z) = is_support z ≡ true
Fits old m (CloseHour hour) = Closes m hour

-- ---- each record that a message leaves keeps every clause

and-true : (a : Bool) → a ≡ true → (a && true && true) ≡ true
and-true a h = rw h

exempt-only : (a b : Bool) → implies (a && b) b ≡ true
exempt-only true true = refl
exempt-only true false = refl
exempt-only false b = refl

opened-fine : (o : Opening) (bid : Bid) → key_fits o.key ≡ true → bid_mwh_fits (rules_of o.key.kind) bid.mwh ≡ true
    → differential_fits (rules_of o.key.kind) o.differential ≡ true → pending_fits (rules_of o.key.kind) bid.cents ≡ true
    → (rules_of o.key.kind).intervals ≡ false → Fine o.key (opened_record o bid)
unfolding is_free
opened-fine o bid key mwh differential pending one =
    let marks = (rules_of o.key.kind).exempts in
    record {
      own = refl;
      used = refl;
      ok = bid-ok o.key bid.mwh o.differential (o.exempt && marks) bid.cents key mwh differential (exempt-only o.exempt marks) pending one;
    }

bid-fine : (o : Opening) (ms : List ℕ) (ps : List ℤ) → BidPassed o ms ps → Fine o.key (opened_record o (bid_for o ms ps))
unfolding None
bid-fine o ms ps h =
    rw (bid-passed-is o ms ps h)
    (opened-fine o _ h.key (mwh-bounded o.key.kind ms ps o.differential h.rows)
    (fit-bid o.key.kind ms ps o.differential h.rows.1).1
    (bid-bounded o.key.kind ms ps o.differential o.exempt h.rows)
    (one-curve o.key.kind ms ps o.differential h.rows.1).0)

-- 02, order 3
curves-fine : (c : Curves) (ms : List ℕ) (ps : List ℤ) → CurvesPassed c ms ps → Fine c.key (pending_record c.key (intervals_for c ms ps))
unfolding None is_free
curves-fine c ms ps h =
    rw (intervals-passed-is c ms ps h)
    (record {
      own = refl;
      used = refl;
      ok = pending-ok c.key (intervals_of c.counts ms) h.key (curves-kind c.key.kind c.counts ms ps h.rows.1) (curves-fit c.key.kind c.counts ms ps h.rows.1);
    })

-- 'Post keeps the schedule and, for kind 1, the first price'
kept-price : (t late : Bool) (new old : ℤ) → is_price new ≡ true → (is_price old && (t && late || is_nil old)) ≡ true
    → (is_price (cond t new old) && (t && true || is_nil (cond t new old))) ≡ true
kept-price true late new old h k = rw h
kept-price false late new old h k = k

posted-fine : (old : Record) (p : Posting) → PostPassed old p → Fine p.key (posted_record old p (posted_for old p))
unfolding is_free
posted-fine old p h =
    let c = h.stands.clauses in
    let keeps = (rules_of old.key.kind).dayahead in
    record {
      own = h.stands.own;
      used = refl;
      ok =
          advanced-ok old posted_stage p.schedule (cond keeps p.price old.price) (posted_for old p) c h.next
          (rw (h.schedule, h.posts))
          (kept-price keeps (leb posted_stage old.stage) p.price old.price h.price c.day_ahead)
          (rw (posted-passed-is old p h)
          (and-true _ (posted-bounded old.key.kind old.differential old.exempt p.schedule p.price p.second h.rows h.mwh)))
          refl;
    }

-- a later stage keeps the schedule, and the price that only a posted import has
late-schedule : (a first never nil : Bool) → (a && implies (first || never) nil) ≡ true → (a && implies never nil) ≡ true
late-schedule a true true nil h = h
late-schedule a true false nil h = rw (and_left a nil h)
late-schedule a false never nil h = h

late-price : (a keeps late nil : Bool) → (a && (keeps && late || nil)) ≡ true → (a && (keeps && true || nil)) ≡ true
late-price a true late nil h = rw (and_left a (late || nil) h)
late-price a false late nil h = h

later-fine : (k : Key) (old : Record) (stage : ℕ) (cents : ℤ) → Stands k old → has_stage (rules_of old.key.kind) stage ≡ true → eqb stage bid_stage ≡ false → leb posted_stage stage ≡ true
    → is_free (later_record old stage cents) ≡ false → requirement_fits (rules_of old.key.kind) stage cents ≡ true → Fine k (later_record old stage cents)
later-fine k old stage cents s next first late used requirement =
    let c = s.clauses in
    let rules = rules_of old.key.kind in
    let schedule = late-schedule (leb old.schedule old.mwh) (eqb old.stage bid_stage) (not (is_scheduled rules)) (eqb old.schedule 0) c.schedule in
    let price = late-price (is_price old.price) rules.dayahead (leb posted_stage old.stage) (is_nil old.price) c.day_ahead in
    record {
      own = s.own;
      used = used;
      ok = advanced-ok old stage old.schedule old.price cents c next (rw first schedule) (rw late price) requirement first;
    }

finished-fine : (old : Record) (f : Finishing) → FinishPassed old f → Fine f.key (later_record old finished_stage (finished_for old f))
unfolding is_free
finished-fine old f h =
    later-fine f.key old finished_stage (finished_for old f) h.stands
    (finished-next old.key.kind (key-kind old.key h.stands.clauses.key) h.finishes) refl refl refl
    (rw (finished-passed-is old f h)
    (and_both _ true (finished-bounded old.key.kind old.exempt old.schedule old.price old.requirement f.actual f.price f.second h.rows) refl))

billed-fine : (k : Key) (old : Record) (cents : ℤ) → Stands k old → is_bill cents ≡ true → Fine k (later_record old billed_stage cents)
unfolding is_free
billed-fine k old cents s h = later-fine k old billed_stage cents s (billed-next (rules_of old.key.kind)) refl refl refl h

-- 02, order 6: what kind 6 decides, as its records use it
sided : Sided (rules_of virtual)
unfolding rules_of by_kind
sided = record { two = refl; one-curve = refl; no-price = refl }

virtual-posted : has_stage (rules_of virtual) posted_stage ≡ true
unfolding rules_of by_kind
virtual-posted = refl

virtual-pending : (z : ℤ) → Range 0 10000000000 z → pending_fits (rules_of virtual) z ≡ true
virtual-pending z r = pending-range virtual z virtual_rules 640000000000 (rules-6 virtual refl) refl (range-wider r (omega arith) (omega arith))

sides-fine : (s : Sides) → SidesPassed s → Fine (zone_key s.zone s.hour) (sides_record (zone_key s.zone s.hour) s.load s.supply (sides_for s))
unfolding is_free rules_of by_kind
sides-fine s h =
    let f = side-fits s.load s.supply h.rows in
    rw (sides-passed-is s h)
    (record {
      own = refl;
      used = refl;
      ok = sides-ok (zone_key s.zone s.hour) s.load s.supply (virtual_bid s.load s.supply) h.key sided f.0.mwh f.0.differential f.1.mwh f.1.differential
          (virtual-pending (virtual_bid s.load s.supply) (bid-range s.load s.supply h.rows));
    })

posted-sides-fine : (old : Record) (p : SidesPosting) → PostSidesPassed old p → Fine (zone_key p.zone p.hour) (sides_posted old p.load p.supply (sides_posted_for old p))
unfolding is_free
posted-sides-fine old p h =
    let load = posted_side p.load old.differential in
    let supply = posted_side p.supply old.supply.differential in
    let own : old.key.kind ≡ virtual = ap (λ (k : Key). k.kind) h.stands.own in
    rw (posted-sides-passed-is old p h)
    (record {
      own = h.stands.own;
      used = refl;
      ok = sides-posted-ok old p.load p.supply (virtual_posted load supply) h.stands.clauses (rw own sided) (rw own virtual-posted) h.kept h.load h.supply
          (rw own (virtual-pending (virtual_posted load supply) (posted-range load supply h.rows)));
    })

-- ---- each accepted message

deed-fits : (old : Record) (m : Message) (ms : List ℕ) (ps : List ℤ) → Under (key_of m) old → None (plan_rows old m ms ps) → Fits old m (deed_for old m ms ps)
unfolding None
deed-fits old (Open o) ms ps u h =
    let a = open-passed old o ms ps h in record { begins = refl; free = a.1; fine = bid-fine o ms ps a.0; bid = refl }
deed-fits old (Revise o) ms ps u h =
    let a = revise-passed old o ms ps u h in
    record { later = refl; used = a.1.stands.used; was = refl; stage = eqb-true old.stage bid_stage a.1.stage; fine = bid-fine o ms ps a.0; bid = refl }
deed-fits old (Withdraw k) ms ps u h =
    record { later = refl; used = (stage-passed k old (eqb old.stage bid_stage) u h).stands.used; own = refl }
deed-fits old (Post p) ms ps u h =
    let a = post-passed old p ms ps u h in record { later = refl; used = a.stands.used; fine = posted-fine old p a }
deed-fits old (Finish f) ms ps u h =
    let a = finish-passed old f ms ps u h in record { later = refl; used = a.stands.used; fine = finished-fine old f a }
deed-fits old (Bill b) ms ps u h =
    let a = bill-passed b.key b.cents old u h in
    record { later = refl; used = a.0.stands.used; fine = billed-fine b.key old b.cents a.0.stands a.1 }
deed-fits old (Pay k) ms ps u h =
    record { later = refl; used = (stage-passed k old (eqb old.stage billed_stage) u h).stands.used; own = refl }
deed-fits old (Support s) ms ps u h = not-false (is_support s.cents) h.0
deed-fits old (OpenCurves c) ms ps u h =
    let a = open-curves-passed old c ms ps h in
    record {
      added = record { begins = refl; free = a.1; fine = curves-fine c ms ps a.0; bid = refl };
      four = curves-kind c.key.kind c.counts ms ps a.0.rows.1;
      nil = refl;
    }
deed-fits old (ReviseCurves c) ms ps u h =
    let a = revise-curves-passed old c ms ps u h in
    record { later = refl; used = a.1.stands.used; was = refl; stage = eqb-true old.stage bid_stage a.1.stage; fine = curves-fine c ms ps a.0; bid = refl }
deed-fits old (Close c) ms ps u h = record { is = refl; hour-high = (close-fits c.hour ms ps h).hour-high }
deed-fits old (OpenSides s) ms ps u h =
    let a = open-sides-passed old s ms ps h in record { begins = refl; free = a.1; fine = sides-fine s a.0; bid = refl }
deed-fits old (ReviseSides s) ms ps u h =
    let a = revise-sides-passed old s ms ps u h in
    record { later = refl; used = a.1.stands.used; was = refl; stage = eqb-true old.stage bid_stage a.1.stage; fine = sides-fine s a.0; bid = refl }
deed-fits old (PostSides p) ms ps u h =
    let a = post-sides-passed old p ms ps u h in record { later = refl; used = a.stands.used; fine = posted-sides-fine old p a }

pub fits : (old : Record) (m : Message) (ms : List ℕ) (ps : List ℤ) (d : Deed) → Under (key_of m) old → plan old m ms ps ≡ accept d → Fits old m d
unfolding plan
fits old m ms ps d u h =
    let a = judge-accept (plan_rows old m ms ps) (deed_for old m ms ps) d (plan-rows-numbered old m ms ps) h in
    subst (Fits old m) a.1 (deed-fits old m ms ps u a.0)
