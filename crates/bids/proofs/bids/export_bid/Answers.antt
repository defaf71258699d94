-- `bids::export_bid`: the larger of two amounts of at most 640,000,000,000.
use mathlib.Core.Path.{◌≡◌, ap, ◌∙◌}
use mathlib.Core.Bool.{true}
use mathlib.Core.List.{List}
use Prim.Native.Nat.{ℕ, ◌*◌, ◌≤◌}
use native.Mathlib.Omega.{arith}
use borrow.Author.Tests.{leb-true}
use lib.IntN.{ℤ, pos}
use Rattle.amounts.specs.Amount.{max_of}
use Rattle.amounts.specs.Limits.{is_differential}
use Rattle.amounts.proofs.Steps.{back, quantity}
use Rattle.bids.specs.Points.{curve, total_mwh}
use Rattle.bids.specs.Bids.{export_bid}
use Rattle.bids.proofs.Curves.{Fit, exposed-small, total-times-small}
use Rattle.bids.proofs.Largest.{exposure-only}
use Rattle.bids.proofs.bids.export_bid.Goals as goal

pub overflow_cast-by_price : goal.overflow_cast-by_price
overflow_cast-by_price c = record { sfits = omega (arith, exposed-small c.args.points.fit c.exposure-by_price.ensures) }

by-differential-small : (ms : List ℕ) (ps : List ℤ) (d : ℕ) {t : ℕ} → Fit ms ps → is_differential d ≡ true → t ≡ total_mwh (curve ms ps) → t * d ≤ 640000000000
by-differential-small ms ps d h g e = rw e (total-times-small h d (leb-true d 1000000 g))

pub overflow_mul-by_differential : goal.overflow_mul-by_differential
overflow_mul-by_differential c = omega (arith, by-differential-small _ _ c.args.differential c.args.points.fit c.requires c.total_mwh.ensures)

pub overflow_cast-by_differential : goal.overflow_cast-by_differential
overflow_cast-by_differential c = record { sfits = omega (arith, by-differential-small _ _ c.args.differential c.args.points.fit c.requires c.total_mwh.ensures) }

pub returns : goal.returns
unfolding export_bid
returns c =
    let d = c.args.differential in
    let by-price = (quantity (exposed-small c.args.points.fit c.exposure-by_price.ensures) tt).is ∙ ap pos (exposure-only c.exposure-by_price.ensures) in
    let by-differential = (quantity (by-differential-small _ _ d c.args.points.fit c.requires c.total_mwh.ensures) tt).is ∙ ap (λ (n : ℕ). pos (n * d)) c.total_mwh.ensures in
    back c.larger.result c.larger.type_inv ∙ c.larger.ensures ∙ (λ j. max_of (by-price j) (by-differential j))
