-- The clauses of a sound record, each by its name.
-- Assumes nothing.
use mathlib.Core.Path.{◌≡◌, refl}
use mathlib.Core.Bool.{Bool, true, false, ◌&&◌, ◌||◌}
use mathlib.Core.Logic.{◌⊎◌, inl, inr}
use Rattle.refusals.proofs.Laws.{never, and_left, and_right}
use Rattle.kinds.specs.declared.Rules.{Rules}
use Rattle.kinds.specs.Kinds.{has_stage, bid_mwh_fits, differential_fits, rules_of}
use Rattle.keys.specs.Keys.{key_fits}
use Rattle.records.specs.Records.{Record, implies, schedule_fits, day_ahead_fits, exempt_fits, requirement_fits, quarters_fit, sides_fit, keeps, ok_record}

-- ---- tests
pub either : (a b : Bool) → (a || b) ≡ true → (a ≡ true) ⊎ (b ≡ true)
either true b h = inl refl
either false b h = inr h

pub or_right : (a b : Bool) → b ≡ true → (a || b) ≡ true
or_right true b h = refl
or_right false b h = h

pub implied : (a b : Bool) → implies a b ≡ true → a ≡ true → b ≡ true
implied true b h e = h
implied false b h e = never e

-- ---- a sound record, by the rules of its kind
pub record Clauses (r : Record) : Type 0 where
  pub key : key_fits r.key ≡ true
  pub stage : has_stage (rules_of r.key.kind) r.stage ≡ true
  pub mwh : bid_mwh_fits (rules_of r.key.kind) r.mwh ≡ true
  pub schedule : schedule_fits (rules_of r.key.kind) r ≡ true
  pub differential : differential_fits (rules_of r.key.kind) r.differential ≡ true
  pub day_ahead : day_ahead_fits (rules_of r.key.kind) r ≡ true
  pub exempt : exempt_fits (rules_of r.key.kind) r ≡ true
  pub requirement : requirement_fits (rules_of r.key.kind) r.stage r.requirement ≡ true
  pub quarters : quarters_fit (rules_of r.key.kind) r ≡ true
  pub sides : sides_fit (rules_of r.key.kind) r ≡ true

module _ (r : Record) where
  abbrev own : Rules
  own = rules_of r.key.kind

  abbrev to-mwh : Bool
  to-mwh = has_stage own r.stage && bid_mwh_fits own r.mwh

  abbrev to-schedule : Bool
  to-schedule = to-mwh && schedule_fits own r

  abbrev to-differential : Bool
  to-differential = to-schedule && differential_fits own r.differential

  abbrev to-price : Bool
  to-price = to-differential && day_ahead_fits own r

  abbrev to-exempt : Bool
  to-exempt = to-price && exempt_fits own r

  abbrev to-requirement : Bool
  to-requirement = to-exempt && requirement_fits own r.stage r.requirement

  abbrev to-quarters : Bool
  to-quarters = to-requirement && quarters_fit own r

  pub clauses : ok_record r ≡ true → Clauses r
  unfolding ok_record keeps
  clauses h =
      let h9 = and_right (key_fits r.key) (to-quarters && sides_fit own r) h in
      let h8 = and_left to-quarters (sides_fit own r) h9 in
      let h7 = and_left to-requirement (quarters_fit own r) h8 in
      let h6 = and_left to-exempt (requirement_fits own r.stage r.requirement) h7 in
      let h5 = and_left to-price (exempt_fits own r) h6 in
      let h4 = and_left to-differential (day_ahead_fits own r) h5 in
      let h3 = and_left to-schedule (differential_fits own r.differential) h4 in
      let h2 = and_left to-mwh (schedule_fits own r) h3 in
      record {
        key = and_left (key_fits r.key) (to-quarters && sides_fit own r) h;
        stage = and_left (has_stage own r.stage) (bid_mwh_fits own r.mwh) h2;
        mwh = and_right (has_stage own r.stage) (bid_mwh_fits own r.mwh) h2;
        schedule = and_right to-mwh (schedule_fits own r) h3;
        differential = and_right to-schedule (differential_fits own r.differential) h4;
        day_ahead = and_right to-differential (day_ahead_fits own r) h5;
        exempt = and_right to-price (exempt_fits own r) h6;
        requirement = and_right to-exempt (requirement_fits own r.stage r.requirement) h7;
        quarters = and_right to-requirement (quarters_fit own r) h8;
        sides = and_right to-quarters (sides_fit own r) h9;
      }

  pub sound : Clauses r → ok_record r ≡ true
  unfolding ok_record keeps
  sound c = rw (c.key, c.stage, c.mwh, c.schedule, c.differential, c.day_ahead, c.exempt, c.requirement, c.quarters, c.sides)
