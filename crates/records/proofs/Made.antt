-- The records that a bid and a later stage make keep every clause where what they set keeps its own.
-- Assumes nothing.
use mathlib.Core.Path.{◌≡◌, refl}
use mathlib.Core.Bool.{Bool, true, false, not, ◌&&◌, ◌||◌}
use Prim.Native.Nat.{ℕ}
use lib.Dec.{leb, leb-zero, eqb}
use lib.IntN.{ℤ, pos}
use Rattle.amounts.specs.Limits.{is_differential, is_nil}
use Rattle.refusals.proofs.Laws.{and_left, and_right, and_both}
use Rattle.kinds.specs.declared.Rules.{Rules}
use Rattle.kinds.proofs.ByKind.{all-rules}
use Rattle.kinds.specs.Kinds.{bid_stage, posted_stage, never, has_stage, bid_mwh_fits, differential_fits, pending_fits, rules_of}
use Rattle.keys.specs.declared.Key.{Key}
use Rattle.keys.specs.Keys.{key_fits}
use Rattle.intervals.specs.declared.types.Intervals.{Intervals}
use Rattle.intervals.specs.Intervals.{intervals_fit, is_none}
use Rattle.virtuals.specs.declared.Side.{Side}
use Rattle.virtuals.specs.Virtuals.{no_supply, is_no_supply, supply_fits, is_side_mwh}
use Rattle.records.specs.Records.{Record, bid_record, pending_record, sides_record, advanced, sides_posted, implies, schedule_fits, day_ahead_fits, exempt_fits, requirement_fits, ok_record}
use Rattle.records.proofs.Clauses.{or_right, Clauses, sound}

-- no supply side at all, at any stage
no_sides : (rules : Rules) (first : Bool) → ((rules.sides && supply_fits no_supply || is_no_supply no_supply) && implies first true) ≡ true
no_sides rules first = rw (or_right (rules.sides && supply_fits no_supply) true refl, or_right (not first) true refl)

and-true : (a : Bool) → a ≡ true → (a && true && true) ≡ true
and-true a h = rw h

module _ (k : Key) (mwh differential : ℕ) (exempt : Bool) (z : ℤ) where
  pub bid-ok : key_fits k ≡ true → bid_mwh_fits (rules_of k.kind) mwh ≡ true → differential_fits (rules_of k.kind) differential ≡ true
      → exempt_fits (rules_of k.kind) (bid_record k mwh differential exempt z) ≡ true → pending_fits (rules_of k.kind) z ≡ true
      → (rules_of k.kind).intervals ≡ false → ok_record (bid_record k mwh differential exempt z) ≡ true
  bid-ok key fits limit mark pending one =
      sound (bid_record k mwh differential exempt z)
      (record {
        key = key;
        stage = refl;
        mwh = fits;
        schedule = rw (leb-zero mwh);
        differential = limit;
        day_ahead = or_right ((rules_of k.kind).dayahead && leb posted_stage bid_stage) true refl;
        exempt = mark;
        requirement = and-true (pending_fits (rules_of k.kind) z) pending;
        quarters = rw one;
        sides = no_sides (rules_of k.kind) true;
      })

-- an amount of 0 is within every kind's limit
nothing-fits : (kind : ℕ) → pending_fits (rules_of kind) (pos 0) ≡ true
nothing-fits kind = all-rules (λ (r : Rules). pending_fits r (pos 0) ≡ true) refl refl refl refl refl refl refl kind

module _ (k : Key) (sums : Intervals) where
  pub pending-ok : key_fits k ≡ true → (rules_of k.kind).intervals ≡ true → intervals_fit sums ≡ true → ok_record (pending_record k sums) ≡ true
  pending-ok key four fits =
      sound (pending_record k sums)
      (record {
        key = key;
        stage = refl;
        mwh = leb-zero (rules_of k.kind).mwh;
        schedule = refl;
        differential = leb-zero (rules_of k.kind).differential;
        day_ahead = or_right ((rules_of k.kind).dayahead && leb posted_stage bid_stage) true refl;
        exempt = refl;
        requirement = and-true (pending_fits (rules_of k.kind) (pos 0)) (nothing-fits k.kind);
        quarters = rw (four, fits);
        sides = no_sides (rules_of k.kind) true;
      })

-- past stage 1 a requirement may stand
unless-first : (a first b : Bool) → first ≡ false → implies (a && first) b ≡ true
unless-first true first b e = rw e
unless-first false first b e = refl

module _ (r : Record) (stage schedule : ℕ) (price z : ℤ) where
  abbrev own : Rules
  own = rules_of r.key.kind

  pub advanced-ok : Clauses r → has_stage (rules_of r.key.kind) stage ≡ true
      → schedule_fits (rules_of r.key.kind) (advanced r stage schedule price z) ≡ true
      → day_ahead_fits (rules_of r.key.kind) (advanced r stage schedule price z) ≡ true
      → requirement_fits (rules_of r.key.kind) stage z ≡ true
      → eqb stage bid_stage ≡ false
      → ok_record (advanced r stage schedule price z) ≡ true
  advanced-ok c reached scheduled priced required later =
      sound (advanced r stage schedule price z)
      (record {
        key = c.key;
        stage = reached;
        mwh = c.mwh;
        schedule = scheduled;
        differential = c.differential;
        day_ahead = priced;
        exempt = c.exempt;
        requirement = required;
        quarters = and_both (own.intervals && intervals_fit r.intervals || is_none r.intervals) (implies (own.intervals && eqb stage bid_stage) (is_nil z))
            (and_left (own.intervals && intervals_fit r.intervals || is_none r.intervals) (implies (own.intervals && eqb r.stage bid_stage) (is_nil r.requirement)) c.quarters)
            (unless-first own.intervals (eqb stage bid_stage) (is_nil z) later);
        sides = and_both (own.sides && supply_fits r.supply || is_no_supply r.supply) (implies (eqb stage bid_stage) (eqb r.supply.schedule 0))
            (and_left (own.sides && supply_fits r.supply || is_no_supply r.supply) (implies (eqb r.stage bid_stage) (eqb r.supply.schedule 0)) c.sides)
            (rw later);
      })

-- ---- two sides

-- what a kind of two sides decides, as these laws use it
pub record Sided (rules : Rules) : Type 0 where
  pub two : rules.sides ≡ true
  pub one-curve : rules.intervals ≡ false
  pub no-price : rules.dayahead ≡ false

module _ (k : Key) (load supply : Side) (z : ℤ) where
  abbrev own-sides : Rules
  own-sides = rules_of k.kind

  pub sides-ok : key_fits k ≡ true → Sided (rules_of k.kind) → bid_mwh_fits (rules_of k.kind) load.mwh ≡ true
      → differential_fits (rules_of k.kind) load.differential ≡ true
      → is_side_mwh supply.mwh ≡ true → is_differential supply.differential ≡ true
      → pending_fits (rules_of k.kind) z ≡ true → ok_record (sides_record k load supply z) ≡ true
  sides-ok key sided fits limit mwh differential pending =
      sound (sides_record k load supply z)
      (record {
        key = key;
        stage = refl;
        mwh = fits;
        schedule = rw (leb-zero load.mwh);
        differential = limit;
        day_ahead = or_right (own-sides.dayahead && leb posted_stage bid_stage) true refl;
        exempt = refl;
        requirement = and-true (pending_fits own-sides z) pending;
        quarters = rw sided.one-curve;
        sides = rw (sided.two, mwh, differential, leb-zero supply.mwh);
      })

-- posted: each side within what was bid of it
module _ (r : Record) (load supply : ℕ) (z : ℤ) where
  abbrev own-posted : Rules
  own-posted = rules_of r.key.kind

  pub sides-posted-ok : Clauses r → Sided (rules_of r.key.kind) → has_stage (rules_of r.key.kind) posted_stage ≡ true
      → supply_fits r.supply ≡ true → leb load r.mwh ≡ true → leb supply r.supply.mwh ≡ true
      → pending_fits (rules_of r.key.kind) z ≡ true → ok_record (sides_posted r load supply z) ≡ true
  sides-posted-ok c sided reached kept within within-supply pending =
      let both = and_left (is_side_mwh r.supply.mwh && is_differential r.supply.differential) (leb r.supply.schedule r.supply.mwh) kept in
      sound (sides_posted r load supply z)
      (record {
        key = c.key;
        stage = reached;
        mwh = c.mwh;
        schedule = rw (within, sided.two, or_right (not (eqb own-posted.posted never)) true refl);
        differential = c.differential;
        day_ahead = rw sided.no-price (rw sided.no-price at c.day_ahead);
        exempt = c.exempt;
        requirement = and-true (pending_fits own-posted z) pending;
        quarters = rw sided.one-curve (rw sided.one-curve at c.quarters);
        sides = rw (sided.two, and_left (is_side_mwh r.supply.mwh) (is_differential r.supply.differential) both, and_right (is_side_mwh r.supply.mwh) (is_differential r.supply.differential) both, within-supply);
      })
