-- What the tests of the limits say: of a number as the code reads it, and of the numbers of a post or a finish where no row applies.
-- Assumes nothing.
use mathlib.Core.Path.{◌≡◌, ap, ◌∙◌}
use mathlib.Core.Bool.{true, ◌&&◌}
use Prim.Native.Nat.{ℕ}
use native.Mathlib.Omega.{arith}
use lib.IntN.{ℤ, pos}
use mir.Syntax.{w64}
use mir.Val.{SFits, to_z, of_z}
use mir.Facts.{to_z-of_z}
use borrow.Author.Tests.{leb-true, le-leb, not-false}
use Rattle.amounts.specs.Limits.{is_quantity, is_price, is_differential, is_pending}
use Rattle.amounts.proofs.Signed.{range-true}
use Rattle.amounts.proofs.Steps.{Known, read, quantity}
use Rattle.refusals.specs.Refusals.{None}
use Rattle.refusals.proofs.Laws.{and_left, and_right}
use Rattle.kinds.specs.Kinds.{rules_of, differential_fits, pending_fits, prices_fit}
use Rattle.kinds.proofs.Fits.{differential-small, Prices, prices}
use Rattle.deliveries.specs.Rows.{delivery_rows, posted_rows, finished_rows}

-- ---- a parameter that passed its test, as the code reads it

-- a quantity and a differential after `as i64`, and that the cast loses nothing
pub mwh : (n : ℕ) → is_quantity n ≡ true → Known (to_z w64 n) (pos n) 0 640000
mwh n h = quantity (leb-true n 640000 h) tt

pub mwh-cast : (n : ℕ) → is_quantity n ≡ true → SFits w64 (pos n)
mwh-cast n h = record { sfits = omega (arith, leb-true n 640000 h) }

pub differential : (n : ℕ) → is_differential n ≡ true → Known (to_z w64 n) (pos n) 0 1000000
differential n h = quantity (leb-true n 1000000 h) tt

pub differential-cast : (n : ℕ) → is_differential n ≡ true → SFits w64 (pos n)
differential-cast n h = record { sfits = omega (arith, leb-true n 1000000 h) }

pub price : (z : ℤ) → is_price z ≡ true → Known (to_z w64 (of_z w64 z)) z 1000000 1000000
price z h = read (range-true 1000000 1000000 z h) tt

pub pending : (z : ℤ) → is_pending z ≡ true → Known (to_z w64 (of_z w64 z)) z 0 640000000000
pending z h = read (range-true 0 640000000000 z h) tt

-- and handed on
pub handed-price : {z : ℤ} → SFits w64 z → is_price z ≡ true → is_price (to_z w64 (of_z w64 z)) ≡ true
handed-price f h = ap is_price (to_z-of_z f) ∙ h

pub handed-pending : {z : ℤ} → SFits w64 z → is_pending z ≡ true → is_pending (to_z w64 (of_z w64 z)) ≡ true
handed-pending f h = ap is_pending (to_z-of_z f) ∙ h

-- ---- the numbers of a post or a finish that no row refuses

pub record Posting (d s : ℕ) (p q : ℤ) : Type 0 where
  pub differential : is_differential d ≡ true
  pub schedule : is_quantity s ≡ true
  pub prices : Prices p q

pub posting : (kind d s : ℕ) (p q : ℤ) → None (posted_rows kind d s p q) → Posting d s p q
unfolding None posted_rows delivery_rows
posting kind d s p q h = record {
  differential = le-leb d 1000000 (differential-small kind d (not-false (differential_fits (rules_of kind) d) h.1.1.0));
  schedule = not-false (is_quantity s) h.0;
  prices = prices (rules_of kind) p q (not-false (prices_fit (rules_of kind) p q) h.1.0);
}

pub record Finish (kind s : ℕ) (day_ahead posted : ℤ) (a : ℕ) (p q : ℤ) : Type 0 where
  pub schedule : is_quantity s ≡ true
  pub actual : is_quantity a ≡ true
  pub kept : is_price day_ahead ≡ true
  pub prices : Prices p q
  pub pending : pending_fits (rules_of kind) posted ≡ true

pub finish : (kind s : ℕ) (day_ahead posted : ℤ) (a : ℕ) (p q : ℤ) → None (finished_rows kind s day_ahead posted a p q) → Finish kind s day_ahead posted a p q
unfolding None finished_rows
finish kind s day_ahead posted a p q h =
    let quantities = not-false (is_quantity s && is_quantity a) h.0 in
    let priced = not-false (is_price day_ahead && prices_fit (rules_of kind) p q) h.1.0 in
    record {
      schedule = and_left (is_quantity s) (is_quantity a) quantities;
      actual = and_right (is_quantity s) (is_quantity a) quantities;
      kept = and_left (is_price day_ahead) (prices_fit (rules_of kind) p q) priced;
      prices = prices (rules_of kind) p q (and_right (is_price day_ahead) (prices_fit (rules_of kind) p q) priced);
      pending = not-false (pending_fits (rules_of kind) posted) h.1.1.0;
    }
