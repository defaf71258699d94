-- How large a requirement can be in a sound place.
-- Assumes nothing.
use mathlib.Core.Path.{◌≡◌, refl, sym, subst}
use mathlib.Core.Bool.{Bool, true, false, cond, ◌&&◌}
use mathlib.Core.Logic.{⊎_elim}
use Prim.Native.Nat.{ℕ, ◌≤◌}
use native.Mathlib.Omega.{arith}
use lib.Dec.{leb, eqb}
use lib.IntN.{ℤ, pos}
use borrow.Author.Tests.{leb-true, leb-false, eqb-false, eq-eqb, le-leb}
use Rattle.amounts.specs.Amount.{Range}
use Rattle.amounts.specs.Limits.{is_bill, is_finished}
use Rattle.amounts.proofs.Signed.{range-true, range-wider, tested}
use Rattle.kinds.specs.Kinds.{bid_stage, posted_stage, finished_stage, billed_stage, pending_fits, rules_of}
use Rattle.kinds.proofs.Fits.{pending-wide}
use Rattle.refusals.proofs.Laws.{and_left, and_right}
use Rattle.records.specs.Records.{Record, blank, is_blank, implies, requirement_fits, ok_record, ok_place}
use Rattle.records.proofs.Clauses.{either, implied, clauses}
use Rattle.records.proofs.Places.{stage-bounds, blank-eq}

module _ (kind stage : ℕ) (z : ℤ) (h : requirement_fits (rules_of kind) stage z ≡ true) where
  abbrev pending : Bool
  pending = implies (leb stage posted_stage) (pending_fits (rules_of kind) z)

  abbrev finished : Bool
  finished = implies (eqb stage finished_stage) (is_finished z)

  abbrev billed : Bool
  billed = implies (eqb stage billed_stage) (is_bill z)

  -- stages 1 and 2
  pub pending-fits : stage ≤ posted_stage → pending_fits (rules_of kind) z ≡ true
  pending-fits e =
      implied (leb stage posted_stage) (pending_fits (rules_of kind) z) (and_left pending finished (and_left (pending && finished) billed h)) (le-leb stage posted_stage e)

  finished-range : eqb stage finished_stage ≡ true → Range 1300000000000 1300000000000 z
  finished-range e =
      range-true 1300000000000 1300000000000 z (implied (eqb stage finished_stage) (is_finished z) (and_right pending finished (and_left (pending && finished) billed h)) e)

  billed-range : eqb stage billed_stage ≡ true → Range 1000000000000 1000000000000 z
  billed-range e = range-true 1000000000000 1000000000000 z (implied (eqb stage billed_stage) (is_bill z) (and_right (pending && finished) billed h) e)

  pub stage-range : stage ≤ billed_stage → Range 1300000000000 1300000000000 z
  stage-range most =
      tested (leb stage posted_stage)
      (λ e. range-wider (pending-wide kind z (pending-fits (leb-true stage posted_stage e))) (omega arith) (omega arith))
      (λ e. tested (eqb stage finished_stage) finished-range
      (λ f. range-wider (billed-range (eq-eqb stage billed_stage (omega (arith, leb-false stage posted_stage e, eqb-false stage finished_stage f)))) (omega arith) (omega arith)))

record-bounded : (r : Record) → ok_record r ≡ true → Range 1300000000000 1300000000000 r.requirement
record-bounded r h = stage-range r.key.kind r.stage r.requirement (clauses r h).requirement (stage-bounds r h).1

-- a blank weighs 0, held and owed
pub requirement-blank : blank.requirement ≡ pos 0
requirement-blank = refl

pub owes-blank : cond (eqb blank.stage billed_stage) blank.requirement (pos 0) ≡ pos 0
owes-blank = refl

pub requirement-bounded : (r : Record) → ok_place r ≡ true → Range 1300000000000 1300000000000 r.requirement
unfolding ok_place
requirement-bounded r h =
    ⊎_elim (λ b. subst (λ (x : Record). Range 1300000000000 1300000000000 x.requirement) (sym (blank-eq r b)) (omega arith)) (record-bounded r)
    (either (is_blank r) (ok_record r) h)

-- 01: 'Net owed is the sum over stage 4'
pub owes-bounded : (r : Record) → ok_place r ≡ true → Range 1300000000000 1300000000000 (cond (eqb r.stage billed_stage) r.requirement (pos 0))
owes-bounded r h = by-stage (eqb r.stage billed_stage)
  where
    by-stage : (t : Bool) → Range 1300000000000 1300000000000 (cond t r.requirement (pos 0))
    by-stage true = requirement-bounded r h
    by-stage false = omega arith

-- 01: 'stages 1 and 2, 0 to 640,000,000,000'
pub early-bounded : (r : Record) → ok_record r ≡ true → r.stage ≡ bid_stage → Range 0 640000000000 r.requirement
early-bounded r h e =
    pending-wide r.key.kind r.requirement (pending-fits r.key.kind r.stage r.requirement (clauses r h).requirement (omega arith))
