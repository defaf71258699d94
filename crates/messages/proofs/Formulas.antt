-- Document 01, demand 2: 'Every requirement that a message sets equals 01's formulas'. The amounts of the record that an accepted message leaves, in 01's words.
-- Assumes nothing.
use mathlib.Core.Path.{◌≡◌, ap}
use mathlib.Core.List.{List, ◌∷◌}
use Prim.Native.Nat.{ℕ}
use lib.IntN.{ℤ}
use Rattle.refusals.specs.Refusals.{None}
use Rattle.refusals.proofs.Laws.{judge-none}
use Rattle.bids.specs.Points.{curve}
use Rattle.bids.specs.Bids.{bid_mwh, bid_requirement}
use Rattle.formulas.specs.Stages.{posted_requirement, finished_requirement}
use Rattle.bids.specs.Rows.{bid_rows}
use Rattle.deliveries.specs.Rows.{posted_rows, finished_rows}
use Rattle.refusals.specs.declared.Bid.{Bid}
use Rattle.refusals.specs.Figures.{cents_of}
use Rattle.kinds.specs.Kinds.{kind_row}
use Rattle.refusals.specs.Answers.{bid_of}
use Rattle.bids.specs.Entries.{bid_verdict}
use Rattle.formulas.specs.Entries.{posted_verdict, finished_verdict}
use Rattle.intervals.specs.Intervals.{intervals_of}
use Rattle.intervals.proofs.Laws.{intervals-in}
use Rattle.virtuals.specs.Virtuals.{virtual_bid, virtual_posted}
use Rattle.virtuals.proofs.Laws.{bid-accepted, posted-accepted}
use Rattle.records.specs.declared.types.Record.{Record}
use Rattle.messages.specs.Plan.{Opening, Posting, Finishing, Curves, Sides, SidesPosting, OpenSides, ReviseSides, PostSides, sides_for, sides_posted_for, posted_side, zone_key, Open, Revise, Post, Finish, OpenCurves, ReviseCurves, bid_for, posted_for, finished_for, intervals_for, plan_rows}
use Rattle.messages.proofs.Passed.{Under, BidPassed, open-passed, revise-passed, PostPassed, post-passed, FinishPassed, finish-passed, CurvesPassed, open-curves-passed, revise-curves-passed, SidesPassed, open-sides-passed, revise-sides-passed, PostSidesPassed, post-sides-passed}

-- bid MWh and requirement by 01's formulas
abbrev pub bid_of01 : Opening → List ℕ → List ℤ → Bid
bid_of01 o ms ps =
    record { mwh = bid_mwh o.key.kind (curve ms ps); cents = bid_requirement o.key.kind (curve ms ps) o.differential o.exempt }

pub bid-passed-is : (o : Opening) (ms : List ℕ) (ps : List ℤ) → BidPassed o ms ps → bid_for o ms ps ≡ bid_of01 o ms ps
unfolding bid_for bid_verdict
bid-passed-is o ms ps h =
    ap bid_of (judge-none (kind_row o.key.kind ∷ bid_rows o.key.kind ms ps o.differential) (bid_of01 o ms ps) h.rows)

pub bid-is : (old : Record) (o : Opening) (ms : List ℕ) (ps : List ℤ) → None (plan_rows old (Open o) ms ps) → bid_for o ms ps ≡ bid_of01 o ms ps
bid-is old o ms ps h = bid-passed-is o ms ps (open-passed old o ms ps h).0

pub revised-is : (old : Record) (o : Opening) (ms : List ℕ) (ps : List ℤ) → Under o.key old → None (plan_rows old (Revise o) ms ps) → bid_for o ms ps ≡ bid_of01 o ms ps
revised-is old o ms ps u h = bid-passed-is o ms ps (revise-passed old o ms ps u h).0

pub posted-passed-is : (old : Record) (p : Posting) → PostPassed old p
    → posted_for old p ≡ posted_requirement old.key.kind old.differential old.exempt p.schedule p.price p.second
unfolding posted_for posted_verdict
posted-passed-is old p h =
    ap cents_of
    (judge-none (kind_row old.key.kind ∷ posted_rows old.key.kind old.differential p.schedule p.price p.second)
    (posted_requirement old.key.kind old.differential old.exempt p.schedule p.price p.second)
    h.rows)

pub posted-is : (old : Record) (p : Posting) (ms : List ℕ) (ps : List ℤ) → Under p.key old → None (plan_rows old (Post p) ms ps)
    → posted_for old p ≡ posted_requirement old.key.kind old.differential old.exempt p.schedule p.price p.second
posted-is old p ms ps u h = posted-passed-is old p (post-passed old p ms ps u h)

pub finished-passed-is : (old : Record) (f : Finishing) → FinishPassed old f
    → finished_for old f ≡ finished_requirement old.key.kind old.exempt old.schedule old.price old.requirement f.actual f.price f.second
unfolding finished_for finished_verdict
finished-passed-is old f h =
    ap cents_of
    (judge-none (kind_row old.key.kind ∷ finished_rows old.key.kind old.schedule old.price old.requirement f.actual f.price f.second)
    (finished_requirement old.key.kind old.exempt old.schedule old.price old.requirement f.actual f.price f.second)
    h.rows)

pub finished-is : (old : Record) (f : Finishing) (ms : List ℕ) (ps : List ℤ) → Under f.key old → None (plan_rows old (Finish f) ms ps)
    → finished_for old f ≡ finished_requirement old.key.kind old.exempt old.schedule old.price old.requirement f.actual f.price f.second
finished-is old f ms ps u h = finished-passed-is old f (finish-passed old f ms ps u h)

-- 02, order 3: the four sums of the curves
pub intervals-passed-is : (c : Curves) (ms : List ℕ) (ps : List ℤ) → CurvesPassed c ms ps → intervals_for c ms ps ≡ intervals_of c.counts ms
unfolding intervals_for
intervals-passed-is c ms ps h = intervals-in c.key.kind c.counts ms ps h.rows

pub intervals-is : (old : Record) (c : Curves) (ms : List ℕ) (ps : List ℤ) → None (plan_rows old (OpenCurves c) ms ps) → intervals_for c ms ps ≡ intervals_of c.counts ms
intervals-is old c ms ps h = intervals-passed-is c ms ps (open-curves-passed old c ms ps h).0

pub revised-intervals-is : (old : Record) (c : Curves) (ms : List ℕ) (ps : List ℤ) → Under c.key old → None (plan_rows old (ReviseCurves c) ms ps) → intervals_for c ms ps ≡ intervals_of c.counts ms
revised-intervals-is old c ms ps u h = intervals-passed-is c ms ps (revise-curves-passed old c ms ps u h).0

-- 02, order 6: the requirement of two sides
pub sides-passed-is : (s : Sides) → SidesPassed s → sides_for s ≡ virtual_bid s.load s.supply
unfolding sides_for
sides-passed-is s h = ap cents_of (bid-accepted s.load s.supply h.rows)

pub sides-is : (old : Record) (s : Sides) (ms : List ℕ) (ps : List ℤ) → None (plan_rows old (OpenSides s) ms ps) → sides_for s ≡ virtual_bid s.load s.supply
sides-is old s ms ps h = sides-passed-is s (open-sides-passed old s ms ps h).0

pub revised-sides-is : (old : Record) (s : Sides) (ms : List ℕ) (ps : List ℤ) → Under (zone_key s.zone s.hour) old → None (plan_rows old (ReviseSides s) ms ps) → sides_for s ≡ virtual_bid s.load s.supply
revised-sides-is old s ms ps u h = sides-passed-is s (revise-sides-passed old s ms ps u h).0

pub posted-sides-passed-is : (old : Record) (p : SidesPosting) → PostSidesPassed old p
    → sides_posted_for old p ≡ virtual_posted (posted_side p.load old.differential) (posted_side p.supply old.supply.differential)
unfolding sides_posted_for
posted-sides-passed-is old p h = ap cents_of (posted-accepted (posted_side p.load old.differential) (posted_side p.supply old.supply.differential) h.rows)

pub posted-sides-is : (old : Record) (p : SidesPosting) (ms : List ℕ) (ps : List ℤ) → Under (zone_key p.zone p.hour) old → None (plan_rows old (PostSides p) ms ps)
    → sides_posted_for old p ≡ virtual_posted (posted_side p.load old.differential) (posted_side p.supply old.supply.differential)
posted-sides-is old p ms ps u h = posted-sides-passed-is old p (post-sides-passed old p ms ps u h)
