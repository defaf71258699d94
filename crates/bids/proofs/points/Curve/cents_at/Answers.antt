-- `Curve::cents_at`: at most 1,000,000 cents for each of 640,000 MWh.
use mathlib.Core.Path.{◌≡◌}
use mathlib.Core.List.{List}
use Prim.Native.Nat.{ℕ, ◌*◌, ◌≤◌}
use native.Mathlib.Omega.{arith}
use Rattle.std.proofs.Common.{rules}
use Rattle.amounts.specs.Amount.{up}
use Rattle.amounts.proofs.Signed.{mul_mono, range-true}
use Rattle.bids.specs.Points.{Point, curve, mwh_at}
use Rattle.bids.proofs.Curves.{mwh_at-small}
use Rattle.bids.proofs.points.Curve.cents_at.Goals as goal

small : (l : List Point) {p q m : ℕ} → m ≡ mwh_at p l → p ≡ q → q ≤ 1000000 → mwh_at q l ≤ 640000 → p * m ≤ 640000000000
small l is e price mwh = rw (is, e) (mul_mono price mwh)

pub overflow_mul-result : goal.overflow_mul-result
overflow_mul-result c =
    let price = (range-true 1000000 1000000 c.args.price c.requires).high in
    let mwh = mwh_at-small (up c.args.price) c.args.self.fit in
    omega (arith, small (curve c.args.self.mwh.now c.args.self.prices.now) c.mwh_at_or_above.ensures (search rules) price mwh)
