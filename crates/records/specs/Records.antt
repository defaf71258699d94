-- Document 01, 'Numbers', and 02, orders 3 and 6: one record, and when it is sound.
-- Assumes nothing.
use Rattle.std.specs.Prelude.{Bool, false, ◌&&◌, ◌||◌, not, ℕ, leb, eqb, ℤ, pos}
use Rattle.amounts.specs.Limits.{is_price, is_nil, is_bill, is_finished}
use Rattle.kinds.specs.declared.Rules.{Rules}
use Rattle.kinds.specs.Kinds.{quarter_hour, has_stage, is_scheduled, bid_mwh_fits, differential_fits, pending_fits, rules_of, bid_stage, posted_stage, finished_stage, billed_stage}
use Rattle.keys.specs.declared.Key.{Key}
use Rattle.keys.specs.Keys.{same_key, key_fits}
use Rattle.intervals.specs.declared.types.Intervals.{Intervals}
use Rattle.intervals.specs.Intervals.{no_intervals, intervals_fit, is_none}
use Rattle.virtuals.specs.declared.Side.{Side}
use Rattle.virtuals.specs.declared.Supply.{Supply}
use Rattle.virtuals.specs.Virtuals.{no_supply, is_no_supply, supply_fits}
pub use Rattle.records.specs.declared.types.Record.{Record}

-- 01: 'a free place is zero throughout'
abbrev pub blank : Record
blank =
    record {
      key = record { kind = 0; path = 0; hour = 0 };
      stage = 0;
      mwh = 0;
      differential = 0;
      exempt = false;
      schedule = 0;
      price = pos 0;
      requirement = pos 0;
      intervals = no_intervals;
      supply = no_supply;
    }

-- 01: 'Open makes stage 1'; what a bid does not set is a free place's
abbrev pub bid_record : Key → ℕ → ℕ → Bool → ℤ → Record
bid_record key mwh differential exempt requirement =
    record {
      key = key;
      stage = bid_stage;
      mwh = mwh;
      differential = differential;
      exempt = exempt;
      schedule = blank.schedule;
      price = blank.price;
      requirement = requirement;
      intervals = blank.intervals;
      supply = blank.supply;
    }

-- 02, order 3: 'On opening a bid is pending (stage 1), requirement 0'; 'It carries no differential or exempt mark; these and bid MWh are 0'
abbrev pub pending_record : Key → Intervals → Record
pending_record key sums =
    record {
      key = key;
      stage = bid_stage;
      mwh = blank.mwh;
      differential = blank.differential;
      exempt = blank.exempt;
      schedule = blank.schedule;
      price = blank.price;
      requirement = blank.requirement;
      intervals = sums;
      supply = blank.supply;
    }

-- taken on to a later stage. 01: 'Fields that a message doesn't set keep their values'
abbrev pub advanced : Record → ℕ → ℕ → ℤ → ℤ → Record
advanced r stage schedule price requirement =
    record {
      key = r.key;
      stage = stage;
      mwh = r.mwh;
      differential = r.differential;
      exempt = r.exempt;
      schedule = schedule;
      price = price;
      requirement = requirement;
      intervals = r.intervals;
      supply = r.supply;
    }

-- 02, order 6: 'both sides in one key': a record with its supply side; the load side has the fields that other kinds have too
abbrev pub supplied : Record → Supply → Record
supplied s supply =
    record {
      key = s.key;
      stage = s.stage;
      mwh = s.mwh;
      differential = s.differential;
      exempt = s.exempt;
      schedule = s.schedule;
      price = s.price;
      requirement = s.requirement;
      intervals = s.intervals;
      supply = supply;
    }

-- 'Open and revise carry MWh and differential per side'
abbrev pub sides_record : Key → Side → Side → ℤ → Record
sides_record key load supply requirement =
    supplied (bid_record key load.mwh load.differential false requirement)
    (record { mwh = supply.mwh; differential = supply.differential; schedule = blank.supply.schedule })

-- 'post MWh per side'
abbrev pub sides_posted : Record → ℕ → ℕ → ℤ → Record
sides_posted r load supply requirement =
    supplied (advanced r posted_stage load r.price requirement)
    (record { mwh = r.supply.mwh; differential = r.supply.differential; schedule = supply })

unfoldable pub is_blank : Record → Bool
is_blank r =
    eqb r.key.kind 0 && eqb r.key.path 0 && eqb r.key.hour 0 && eqb r.stage 0 && eqb r.mwh 0
    && eqb r.differential 0 && not r.exempt && eqb r.schedule 0 && is_nil r.price && is_nil r.requirement
    && is_none r.intervals && is_no_supply r.supply

-- 01: 'stages are 1 to 4', so a place at stage 0 holds no transaction
unfoldable pub is_free : Record → Bool
is_free r = eqb r.stage 0

-- the record stands open under this key
unfoldable pub at : Key → Record → Bool
at k r = not (is_free r) && same_key k r.key

-- 02, order 3: the 'pending keys of that hour'
unfoldable pub is_pending : ℕ → Record → Bool
is_pending hour r = eqb r.key.kind quarter_hour && eqb r.key.hour hour && eqb r.stage bid_stage

-- ---- 01: 'A book is sound when ..', of one record, clause by clause

abbrev pub implies : Bool → Bool → Bool
implies a b = not a || b

-- 'schedule is at most bid MWh and 0 at stage 1 and for kind 3', which is never posted
abbrev pub schedule_fits : Rules → Record → Bool
schedule_fits rules r = leb r.schedule r.mwh && implies (eqb r.stage bid_stage || not (is_scheduled rules)) (eqb r.schedule 0)

-- 'the Day-Ahead price is 0 except for kind 1 from stage 2'
abbrev pub day_ahead_fits : Rules → Record → Bool
day_ahead_fits rules r = is_price r.price && (rules.dayahead && leb posted_stage r.stage || is_nil r.price)

-- 'the exempt mark stands only on kind 1'
abbrev pub exempt_fits : Rules → Record → Bool
exempt_fits rules r = implies r.exempt rules.exempts

-- 'the requirement is bounded': stages 1 and 2, stage 3, stage 4
abbrev pub requirement_fits : Rules → ℕ → ℤ → Bool
requirement_fits rules stage amount =
    implies (leb stage posted_stage) (pending_fits rules amount) && implies (eqb stage finished_stage) (is_finished amount)
    && implies (eqb stage billed_stage) (is_bill amount)

-- 02, order 3: 'the record keeps its four MWh sums', which other kinds have not, and 'is pending (stage 1), requirement 0'
abbrev pub quarters_fit : Rules → Record → Bool
quarters_fit rules r =
    (rules.intervals && intervals_fit r.intervals || is_none r.intervals) && implies (rules.intervals && eqb r.stage bid_stage) (is_nil r.requirement)

-- 02, order 6: a supply side, which other kinds have not; posted sides are 0 at stage 1
abbrev pub sides_fit : Rules → Record → Bool
sides_fit rules r =
    (rules.sides && supply_fits r.supply || is_no_supply r.supply) && implies (eqb r.stage bid_stage) (eqb r.supply.schedule 0)

-- every clause but the key's, by the rules of its kind
unfoldable pub keeps : Rules → Record → Bool
keeps rules r =
    has_stage rules r.stage && bid_mwh_fits rules r.mwh && schedule_fits rules r && differential_fits rules r.differential
    && day_ahead_fits rules r && exempt_fits rules r && requirement_fits rules r.stage r.requirement && quarters_fit rules r
    && sides_fit rules r

-- an open record that keeps every clause
unfoldable pub ok_record : Record → Bool
ok_record r = key_fits r.key && keeps (rules_of r.key.kind) r

-- a place: free and zero, or such a record
unfoldable pub ok_place : Record → Bool
ok_place r = is_blank r || ok_record r
