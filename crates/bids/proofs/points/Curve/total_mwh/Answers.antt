-- `Curve::total_mwh`: of two lists of one length, the sum of the one is that of the curve, and it is small.
use mathlib.Core.Path.{◌∙◌}
use native.Mathlib.Omega.{arith}
use Rattle.std.proofs.lemmas.Iterator.{YieldsList-from_slice}
use Rattle.std.proofs.lemmas.Iterator.Consumers.{sum_from_yields_List, fits_from_yields_list}
use Rattle.bids.proofs.Chains.{total-list}
use Rattle.bids.proofs.Curves.{total-small}
use Rattle.bids.proofs.points.Curve.total_mwh.Goals as goal

pub sum-requires-clause-fits : goal.sum-requires-clause-fits
sum-requires-clause-fits c =
    let s = c.args.self in
    fits_from_yields_list c.iter.result _ (YieldsList-from_slice s.mwh.now (cc)) (omega (arith, total-list s.mwh.now s.prices.now s.fit.equal, total-small s.fit))

pub returns : goal.returns
returns c =
    let s = c.args.self in
    sum_from_yields_List c.iter.result c.sum.result c.sum.ensures.ran (YieldsList-from_slice s.mwh.now (cc)) ∙ total-list s.mwh.now s.prices.now s.fit.equal
