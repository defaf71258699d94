-- Demand 2: 'Every requirement that a message sets, from bid to posted schedule, finished hour and bill, equals 01's formulas.
-- Credit held is the sum over open transactions. Suspension stands exactly when the net billed amount reaches half the support.' With 02, order 3, for four curves and a close, and order 6 for two sides.
-- The theorem is demand-two, proofs/Two.antt.
-- Assumes nothing.
use Rattle.std.specs.Prelude.{◌≡◌, Bool, true, false, cond, List, ◌↔◌, ℕ, ℤ, pos, ◌+ℤ◌, ◌*ℤ◌, ◌≤ℤ◌}
use Rattle.std.specs.Int.Signed.{lt_z}
use Rattle.amounts.specs.Lists.{total}
use Rattle.kinds.specs.Kinds.{finished_stage, billed_stage}
use Rattle.refusals.specs.declared.Bid.{Bid}
use Rattle.bids.specs.Points.{curve}
use Rattle.bids.specs.Bids.{bid_mwh, bid_requirement}
use Rattle.formulas.specs.Stages.{posted_requirement, finished_requirement}
use Rattle.keys.specs.declared.Key.{Key}
use Rattle.keys.specs.Keys.{same_key}
use Rattle.records.specs.declared.types.Record.{Record}
use Rattle.intervals.specs.Intervals.{intervals_of}
use Rattle.closings.specs.Closings.{place_of, quote_at, closed_requirement}
use Rattle.virtuals.specs.Virtuals.{virtual_bid, virtual_posted}
use Rattle.records.specs.Records.{blank, pending_record, sides_record, sides_posted, is_free, is_pending}
use Rattle.messages.specs.declared.types.Message.{Message}
use Rattle.messages.specs.declared.types.Message.TheVariants.{Open, Revise, Withdraw, Post, Finish, Bill, Pay, Support, OpenCurves, ReviseCurves, Close, OpenSides, ReviseSides, PostSides}
use Rattle.messages.specs.declared.types.Opening.{Opening}
use Rattle.messages.specs.declared.types.Funding.{Funding}
use Rattle.messages.specs.declared.types.Closing.{Closing}
use Rattle.messages.specs.Plan.{key_of, opened_record, posted_record, later_record, zone_key, posted_side}
use Rattle.credit.specs.Credit.{suspended}
use Rattle.batches.specs.Batches.{closed_record}
use Rattle.refusals.specs.Answers.{Reply}
use Rattle.book.specs.declared.types.Book.{Book}
use Rattle.book.specs.Books.{lookup, sound, held, owed, totals, suspended_shown, empty}
use Rattle.demands.specs.Runs.{next_book, replied}

-- ---- what an accepted message sets, by 01; `old` is the record under its key, blank where the key is not open

-- 'Bid': bid MWh and requirement of a group
abbrev pub bid_set : Opening → List ℕ → List ℤ → Bid
bid_set o mwhs prices =
    record { mwh = bid_mwh o.key.kind (curve mwhs prices); cents = bid_requirement o.key.kind (curve mwhs prices) o.differential o.exempt }

-- the record under its key, with its stage and requirement; blank where none stands
abbrev pub record_set : Record → Message → List ℕ → List ℤ → Record
-- 'Open makes stage 1'; revise is 'the same, replacing the group'
record_set old (Open o) mwhs prices = opened_record o (bid_set o mwhs prices)
record_set old (Revise o) mwhs prices = opened_record o (bid_set o mwhs prices)
-- 'Post goes from 1 to 2'
record_set old (Post p) mwhs prices =
    posted_record old p (posted_requirement old.key.kind old.differential old.exempt p.schedule p.price p.second)
-- 'Finish goes from 2 to 3, for kind 3 from 1 to 3'
record_set old (Finish f) mwhs prices =
    later_record old finished_stage (finished_requirement old.key.kind old.exempt old.schedule old.price old.requirement f.actual f.price f.second)
-- 'Bill goes from 3 to 4'; 'Billed, every kind: the bill, signed'
record_set old (Bill x) mwhs prices = later_record old billed_stage x.cents
-- 'Pay needs 4 and frees the place; withdraw frees it too'
record_set old (Pay k) mwhs prices = blank
record_set old (Withdraw k) mwhs prices = blank
-- 02, order 3: 'On opening a bid is pending (stage 1), requirement 0', with its four sums; revise replaces them
record_set old (OpenCurves c) mwhs prices = pending_record c.key (intervals_of c.counts mwhs)
record_set old (ReviseCurves c) mwhs prices = pending_record c.key (intervals_of c.counts mwhs)
-- a support change names no transaction, and a close an hour: what it leaves is `Closure` below
record_set old (Support s) mwhs prices = blank
record_set old (Close c) mwhs prices = blank
-- 02, order 6: 'while bid, the requirement is the greater of ..'; 'Once posted it is the net MWh times the differential of the net side', at the differentials that were bid
record_set old (OpenSides s) mwhs prices = sides_record (zone_key s.zone s.hour) s.load s.supply (virtual_bid s.load s.supply)
record_set old (ReviseSides s) mwhs prices = sides_record (zone_key s.zone s.hour) s.load s.supply (virtual_bid s.load s.supply)
record_set old (PostSides p) mwhs prices =
    sides_posted old p.load p.supply (virtual_posted (posted_side p.load old.differential) (posted_side p.supply old.supply.differential))

-- the support: 'support (amount)' sets it, and no other message does
abbrev pub support_set : ℤ → Message → ℤ
support_set was (Open o) = was
support_set was (Revise o) = was
support_set was (Withdraw k) = was
support_set was (Post p) = was
support_set was (Finish f) = was
support_set was (Bill x) = was
support_set was (Pay k) = was
support_set was (Support s) = s.cents
support_set was (OpenCurves c) = was
support_set was (ReviseCurves c) = was
support_set was (Close c) = was
support_set was (OpenSides s) = was
support_set was (ReviseSides s) = was
support_set was (PostSides p) = was

-- a close is about an hour; every other message about one transaction, or none
abbrev pub closes : Message → Bool
closes (Open o) = false
closes (Revise o) = false
closes (Withdraw k) = false
closes (Post p) = false
closes (Finish f) = false
closes (Bill x) = false
closes (Pay k) = false
closes (Support s) = false
closes (OpenCurves c) = false
closes (ReviseCurves c) = false
closes (Close c) = true
closes (OpenSides s) = false
closes (ReviseSides s) = false
closes (PostSides p) = false

-- what an open transaction holds; a free place holds nothing
abbrev pub holds : Record → ℤ
holds r = cond (is_free r) (pos 0) r.requirement

-- ---- what a close leaves (02, order 3)

-- 'A bid's requirement is the sum over intervals of price x MWh x a quarter hour, not below 0, rounded up to a cent once', at the prices of its path
abbrev pub requirement_at : List ℕ → List ℤ → Record → ℤ
requirement_at paths prices r = closed_requirement r.intervals (quote_at (place_of r.key.path paths) prices)

-- of a record of the batch; every other keeps what it had
abbrev pub close_set : Bool → ℕ → List ℕ → List ℤ → Record → Record
close_set removed hour paths prices r = cond (is_pending hour r) (cond removed blank (closed_record r (requirement_at paths prices r))) r

-- 'the batch's summed requirement'
abbrev pub batch_of : ℕ → List ℕ → List ℤ → List Record → ℤ
batch_of hour paths prices places = total (λ r. cond (is_pending hour r) (requirement_at paths prices r) (pos 0)) places

module _ (b : Book) (c : Closing) (paths : List ℕ) (prices : List ℤ) where
  abbrev closed : Book
  closed = next_book b (Close c) paths prices

  abbrev told : Reply
  told = replied b (Close c) paths prices

  pub record Closure : Type 0 where
    -- 'if held with the batch exceeds support, every one is removed, and the answer says so'
    pub removes : told.removed ≡ lt_z (totals b).support (held b +ℤ batch_of c.hour paths prices b.records)
    -- what stands under each key afterwards: 'It moves them to stage 2', or 'every one is removed'; every other record is as it was
    pub under : (k : Key) → lookup closed k ≡ close_set told.removed c.hour paths prices (lookup b k)
    -- 'Close answers the batch's summed requirement, 0 if removed'
    pub answers : told.requirement ≡ cond told.removed (pos 0) (batch_of c.hour paths prices b.records)
    -- which is what held gains; net owed stays
    pub gains : held closed ≡ held b +ℤ told.requirement
    pub owed_kept : owed closed ≡ owed b

-- ---- the demand

module _ (b : Book) (m : Message) (mwhs : List ℕ) (prices : List ℤ) where
  abbrev next : Book
  next = next_book b m mwhs prices

  abbrev answer : Reply
  answer = replied b m mwhs prices

  pub record Acceptance : Type 0 where
    -- 'Every requirement that a message sets .. equals 01's formulas'
    pub sets : lookup next (key_of m) ≡ record_set (lookup b (key_of m)) m mwhs prices
    -- and every other key's record is as it was
    pub others : closes m ≡ false → (k : Key) → same_key (key_of m) k ≡ false → lookup next k ≡ lookup b k
    -- a support change sets the support and nothing else
    pub support : (totals next).support ≡ support_set (totals b).support m
    pub places : (s : Funding) → m ≡ Support s → next.records ≡ b.records
    -- 01: 'Acceptance answers the key's requirement (0 after withdraw, pay and support), held and net owed of the next book'
    pub requirement : closes m ≡ false → answer.requirement ≡ (lookup next (key_of m)).requirement
    pub held : answer.held ≡ held next
    pub owed : answer.owed ≡ owed next

  pub record DemandTwo : Type 0 where
    pub accepted : answer.number ≡ 0 → Acceptance
    -- 02, order 3: a close, and that nothing else removes a batch
    pub closed_hour : (c : Closing) → m ≡ Close c → answer.number ≡ 0 → Closure b c mwhs prices
    pub unremoved : closes m ≡ false → answer.removed ≡ false
    -- 'Credit held is the sum over open transactions'
    pub summed : sound b ≡ true → held b ≡ total holds b.records
    -- 'Suspension stands exactly when the net billed amount reaches half the support'; 01: '2 x net owed is at least the support'
    pub suspension : sound b ≡ true → (suspended (totals b) ≡ true) ↔ ((totals b).support ≤ℤ (pos 2 *ℤ owed b))
    -- which is what a screen is shown; 02, order 1: by the totals as they are kept
    pub shown : suspended_shown b ≡ suspended (totals b)
    -- 01: 'An empty book of support 0 is suspended'
    pub emptied : suspended_shown (empty (pos 0)) ≡ true
