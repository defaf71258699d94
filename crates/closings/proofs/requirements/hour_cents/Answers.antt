-- `hour_cents`: the sum of four products.
use mathlib.Core.Path.{◌≡◌}
use Prim.Native.Nat.{ℕ}
use native.Mathlib.Omega.{arith}
use lib.IntN.{ℤ, pos, ◌*ℤ◌}
use mir.Syntax.{w64}
use mir.Val.{to_z, of_z}
use Rattle.amounts.specs.Amount.{Within}
use Rattle.amounts.proofs.Signed.{range-fits}
use Rattle.amounts.proofs.Steps.{Known, told, kept, fits, answer, range-kept, ◌plus◌}
use Rattle.closings.specs.Closings.{hour_cents}
use Rattle.closings.proofs.Laws.{closed-sums, closed-prices, price-within}
use Rattle.closings.proofs.requirements.hour_cents.Goals as goal

-- what a call gave, read back
product : (m : ℕ) (p r : ℤ) → Within 1000000 p → (r ≡ pos m *ℤ to_z w64 (of_z w64 p)) × Within 640000000000 r → Known (to_z w64 (of_z w64 r)) (pos m *ℤ p) 640000000000 640000000000
product m p r h e = kept (told (λ (z : ℤ). pos m *ℤ z) (range-fits h (omega arith)) e) tt

pub interval_cents-requires-clause-mwh_value : goal.interval_cents-requires-clause-mwh_value
interval_cents-requires-clause-mwh_value c = (closed-sums c.args.sums c.args.quote c.requires).first

pub interval_cents-requires-clause-within : goal.interval_cents-requires-clause-within
interval_cents-requires-clause-within c = range-kept (price-within c.args.quote.first (closed-prices c.args.sums c.args.quote c.requires).first) tt tt tt

pub interval_cents-requires-2-clause-mwh_value : goal.interval_cents-requires-2-clause-mwh_value
interval_cents-requires-2-clause-mwh_value c = (closed-sums c.args.sums c.args.quote c.requires).second

pub interval_cents-requires-2-clause-within : goal.interval_cents-requires-2-clause-within
interval_cents-requires-2-clause-within c = range-kept (price-within c.args.quote.second (closed-prices c.args.sums c.args.quote c.requires).second) tt tt tt

pub interval_cents-requires-3-clause-mwh_value : goal.interval_cents-requires-3-clause-mwh_value
interval_cents-requires-3-clause-mwh_value c = (closed-sums c.args.sums c.args.quote c.requires).third

pub interval_cents-requires-3-clause-within : goal.interval_cents-requires-3-clause-within
interval_cents-requires-3-clause-within c = range-kept (price-within c.args.quote.third (closed-prices c.args.sums c.args.quote c.requires).third) tt tt tt

pub overflow_add-result-2 : goal.overflow_add-result-2
overflow_add-result-2 c =
    let m = c.args.sums in
    let q = c.args.quote in
    let p = closed-prices m q c.requires in
    let x = product m.first q.first c.interval_cents.result (price-within q.first p.first) c.interval_cents.ensures in
    let y = product m.second q.second c.interval_cents-2.result (price-within q.second p.second) c.interval_cents-2.ensures in
    let z = product m.third q.third c.interval_cents-3.result (price-within q.third p.third) c.interval_cents-3.ensures in
    fits (kept (x plus y) tt plus z) tt

pub interval_cents-requires-4-clause-mwh_value : goal.interval_cents-requires-4-clause-mwh_value
interval_cents-requires-4-clause-mwh_value c = (closed-sums c.args.sums c.args.quote c.requires).fourth

pub interval_cents-requires-4-clause-within : goal.interval_cents-requires-4-clause-within
interval_cents-requires-4-clause-within c = range-kept (price-within c.args.quote.fourth (closed-prices c.args.sums c.args.quote c.requires).fourth) tt tt tt

pub overflow_add-result-3 : goal.overflow_add-result-3
overflow_add-result-3 c =
    let m = c.args.sums in
    let q = c.args.quote in
    let p = closed-prices m q c.requires in
    let x = product m.first q.first c.interval_cents.result (price-within q.first p.first) c.interval_cents.ensures in
    let y = product m.second q.second c.interval_cents-2.result (price-within q.second p.second) c.interval_cents-2.ensures in
    let z = product m.third q.third c.interval_cents-3.result (price-within q.third p.third) c.interval_cents-3.ensures in
    let w = product m.fourth q.fourth c.interval_cents-4.result (price-within q.fourth p.fourth) c.interval_cents-4.ensures in
    fits (kept (kept (x plus y) tt plus z) tt plus w) tt

pub returns : goal.returns
unfolding hour_cents
returns c =
    let m = c.args.sums in
    let q = c.args.quote in
    let p = closed-prices m q c.requires in
    let x = product m.first q.first c.interval_cents.result (price-within q.first p.first) c.interval_cents.ensures in
    let y = product m.second q.second c.interval_cents-2.result (price-within q.second p.second) c.interval_cents-2.ensures in
    let z = product m.third q.third c.interval_cents-3.result (price-within q.third p.third) c.interval_cents-3.ensures in
    let w = product m.fourth q.fourth c.interval_cents-4.result (price-within q.fourth p.fourth) c.interval_cents-4.ensures in
    answer (kept (kept (kept (x plus y) tt plus z) tt plus w) tt) tt tt
