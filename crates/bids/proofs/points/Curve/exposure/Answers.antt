-- `Curve::exposure`: the largest over the bid prices is that over every price.
use mathlib.Core.Path.{ap, sym, subst, ◌∙◌}
use Prim.Native.Nat.{◌*◌}
use lib.IntN.{ℤ}
use Rattle.std.proofs.Common.{rules, tests, of_calls}
use Rattle.std.specs.Option.{unwrap_or}
use Rattle.std.proofs.lemmas.Iterator.{YieldsList-from_slice, YieldsList-from_map}
use Rattle.std.proofs.lemmas.Iterator.Adapters.{option_map_id, serves_from_places}
use Rattle.std.proofs.lemmas.Iterator.Consumers.{YieldsList-at, max_from_yields_List}
use Rattle.amounts.specs.Amount.{up}
use Rattle.amounts.specs.Limits.{is_price}
use Rattle.bids.specs.Points.{curve, mwh_at, exposure, Exposure}
use Rattle.bids.proofs.Chains.{every-here, tried-prices}
use Rattle.bids.proofs.Largest.{exposure-is}
use Rattle.bids.proofs.points.Curve.exposure.Goals as goal

pub max-requires-clause-can : goal.max-requires-clause-can
max-requires-clause-can c =
    let f = c.args.self.fit in
    (search of_calls, serves_from_places (YieldsList-at c.map.ensures.source (YieldsList-from_slice c.args.self.prices.now cc)) (λ x q k. search rules) (λ x k lt e. let p = every-here is_price x.now c.args.self.prices.now f.prices k lt e in search (rules, p)))

pub returns : goal.returns
unfolding exposure
returns c =
    let ms = c.args.self.mwh.now in
    let ps = c.args.self.prices.now in
    let most = max_from_yields_List c.map.result c.max.result c.max.ensures.ran
    (YieldsList-from_map _ (λ (z : ℤ). up z * mwh_at (up z) (curve ms ps)) (YieldsList-at c.map.ensures.source (YieldsList-from_slice ps cc)) c.map.ensures.closure (λ x r q k. search (rules, tests))) in
    subst (Exposure (curve ms ps)) (sym (c.unwrap_or.ensures ∙ ap (λ o. unwrap_or o 0) (sym (option_map_id c.max.result) ∙ most) ∙ tried-prices (curve ms ps) ms ps c.args.self.fit.equal)) (exposure-is (curve ms ps))
