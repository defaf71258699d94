-- `Curve::mwh_at_or_above`: the chain's sum is that over the curve, and it is small.
use mathlib.Core.Path.{◌∙◌}
use Prim.Native.Nat.{ℕ}
use native.Mathlib.Omega.{arith}
use lib.IntN.{ℤ}
use Rattle.std.proofs.Common.{rules, tests}
use Rattle.std.specs.List.{zip}
use Rattle.std.proofs.lemmas.Iterator.{YieldsList-from_map}
use Rattle.std.proofs.lemmas.Iterator.Consumers.{YieldsList-at, sum_by_from_yields_List, fits_by_from_yields_list}
use Rattle.bids.specs.Points.{share}
use Rattle.bids.proofs.Chains.{point_of, pairs, mwh_at-zip}
use Rattle.bids.proofs.Curves.{mwh_at-small}
use Rattle.bids.proofs.points.Curve.mwh_at_or_above.Goals as goal

pub sum-requires-clause-fits : goal.sum-requires-clause-fits
sum-requires-clause-fits c =
    fits_by_from_yields_list (λ (z : ℕ × ℤ). share c.args.p (point_of z)) (zip c.args.self.mwh.now c.args.self.prices.now) c.map.result _
    (YieldsList-from_map _ (λ (z : ℕ × ℤ). share c.args.p (point_of z)) (YieldsList-at c.map.ensures.source (pairs c.args.self.mwh.now c.args.self.prices.now (cc) (cc))) c.map.ensures.closure (λ x r q k. search (rules, tests)))
    (omega (arith, mwh_at-zip c.args.p c.args.self.mwh.now c.args.self.prices.now, mwh_at-small c.args.p c.args.self.fit))

pub returns : goal.returns
returns c =
    sum_by_from_yields_List (λ (z : ℕ × ℤ). share c.args.p (point_of z)) (zip c.args.self.mwh.now c.args.self.prices.now) c.map.result _ c.sum.ensures.ran
    (YieldsList-from_map _ (λ (z : ℕ × ℤ). share c.args.p (point_of z)) (YieldsList-at c.map.ensures.source (pairs c.args.self.mwh.now c.args.self.prices.now (cc) (cc))) c.map.ensures.closure (λ x r q k. search (rules, tests)))
    ∙ mwh_at-zip c.args.p c.args.self.mwh.now c.args.self.prices.now
