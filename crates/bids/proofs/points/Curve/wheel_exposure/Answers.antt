-- `Curve::wheel_exposure`: the largest of the points, and not below 0.
use mathlib.Core.Path.{refl, ◌∙◌}
use Prim.Native.Nat.{ℕ}
use native.Mathlib.Omega.{arith}
use lib.IntN.{ℤ, pos, neg_ℤ, ◌*ℤ◌}
use Rattle.std.proofs.Common.{rules, tests, of_calls}
use Rattle.std.proofs.lemmas.Iterator.{YieldsList-from_map}
use Rattle.std.proofs.lemmas.Iterator.Adapters.{serves_from_places}
use Rattle.std.proofs.lemmas.Iterator.Consumers.{YieldsList-at, fold_from_yields_List}
use Rattle.amounts.specs.Amount.{max_of}
use Rattle.amounts.specs.Limits.{is_point_mwh, is_price}
use Rattle.amounts.proofs.Signed.{signed, larger-of}
use Rattle.amounts.proofs.Steps.{back}
use Rattle.bids.specs.Points.{curve, wheel_exposure}
use Rattle.bids.proofs.Chains.{pairs, every-zip, wheel-zip}
use Rattle.bids.proofs.Curves.{wheel-small}
use Rattle.bids.proofs.points.Curve.wheel_exposure.Goals as goal

pub fold-requires-clause-can : goal.fold-requires-clause-can
fold-requires-clause-can c =
    let f = c.args.self.fit in
    (search of_calls, serves_from_places (YieldsList-at c.map.ensures.source (pairs c.args.self.mwh.now c.args.self.prices.now (cc) (cc))) (λ x q k. search rules) (λ x k lt e. let p = every-zip is_point_mwh is_price (x.0.now, x.1.now) c.args.self.mwh.now c.args.self.prices.now f.mwhs f.prices k lt e in search (rules, p.0, p.1)))

pub returns : goal.returns
returns c =
    let w = wheel_exposure (curve c.args.self.mwh.now c.args.self.prices.now) in
    let is = fold_from_yields_List _ (λ (a z : ℤ). max_of z a) (pos 0) c.fold.result c.fold.ensures.ran
    (YieldsList-from_map _ (λ (z : ℕ × ℤ). neg_ℤ (pos z.0 *ℤ z.1)) (YieldsList-at c.map.ensures.source (pairs c.args.self.mwh.now c.args.self.prices.now (cc) (cc))) c.map.ensures.closure (λ x r q k. search (rules, tests)))
    (λ a x b q k. search (rules, tests)) in
    back c.fold.result c.fold.type_inv ∙ is ∙ wheel-zip (pos 0) refl c.args.self.mwh.now c.args.self.prices.now ∙ omega (arith, signed, larger-of (pos 0) w, wheel-small c.args.self.fit)
