-- What the rows of the kinds have in common: the stage that each message leaves is one of its kind's, and bid MWh is a quantity.
-- Assumes nothing.
use mathlib.Core.Path.{◌≡◌, refl, sym}
use mathlib.Core.Bool.{true, false}
use Prim.Native.Nat.{ℕ, ◌≤◌}
use native.Mathlib.Omega.{arith}
use lib.Dec.{eqb}
use borrow.Author.Tests.{leb-true, le-leb}
use Rattle.amounts.specs.Limits.{is_quantity}
use Rattle.kinds.specs.declared.Rules.{Rules}
use Rattle.kinds.specs.Kinds.{posted_stage, finished_stage, billed_stage, never, is_kind, has_stage, bid_mwh_fits, rules_of}
use Rattle.kinds.proofs.ByKind.{by-rules, all-rules}

module _ (kind : ℕ) (k : is_kind kind ≡ true) where
  -- a kind that is posted stands at stage 2
  pub posted-next : eqb (rules_of kind).posted never ≡ false → has_stage (rules_of kind) posted_stage ≡ true
  posted-next =
      by-rules kind (λ (rules : Rules). eqb rules.posted never ≡ false → has_stage rules posted_stage ≡ true) k
      (λ e h. refl) (λ e h. refl) (λ e h. sym h) (λ e h. refl) (λ e h. refl) (λ e h. refl)

  pub finished-next : eqb (rules_of kind).finished never ≡ false → has_stage (rules_of kind) finished_stage ≡ true
  finished-next =
      by-rules kind (λ (rules : Rules). eqb rules.finished never ≡ false → has_stage rules finished_stage ≡ true) k
      (λ e h. refl) (λ e h. refl) (λ e h. refl) (λ e h. refl) (λ e h. refl) (λ e h. sym h)

  pub finished_from : (rules_of kind).finished ≤ posted_stage
  finished_from =
      by-rules kind (λ (rules : Rules). rules.finished ≤ posted_stage) k
      (λ e. omega arith) (λ e. omega arith) (λ e. omega arith) (λ e. omega arith) (λ e. omega arith) (λ e. omega arith)

pub billed-next : (rules : Rules) → has_stage rules billed_stage ≡ true
billed-next rules = refl

-- no kind's bid MWh are more than a quantity's
mwh_most : (kind : ℕ) → (rules_of kind).mwh ≤ 640000
mwh_most = all-rules (λ (rules : Rules). rules.mwh ≤ 640000) (omega arith) (omega arith) (omega arith) (omega arith) (omega arith) (omega arith) (omega arith)

pub mwh-quantity : (kind mwh : ℕ) → bid_mwh_fits (rules_of kind) mwh ≡ true → is_quantity mwh ≡ true
mwh-quantity kind mwh h = le-leb mwh 640000 (omega (arith, mwh_most kind, leb-true mwh (rules_of kind).mwh h))

-- 'schedule is at most bid MWh', so it is no more than bid MWh can be
pub schedule-fits : (rules : Rules) (mwh schedule : ℕ) → bid_mwh_fits rules mwh ≡ true → schedule ≤ mwh → bid_mwh_fits rules schedule ≡ true
schedule-fits rules mwh schedule h le = le-leb schedule rules.mwh (omega (arith, leb-true mwh rules.mwh h))
