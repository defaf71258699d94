-- `Curve::largest_mwh`: of two lists of one length, the largest of the one is that of the curve.
use mathlib.Core.Path.{ap, sym, ◌∙◌}
use Rattle.std.specs.Option.{unwrap_or}
use Rattle.std.proofs.lemmas.Iterator.{YieldsList-from_slice}
use Rattle.std.proofs.lemmas.Iterator.Adapters.{option_map_id}
use Rattle.std.proofs.lemmas.Iterator.Consumers.{YieldsList-from_copied, max_from_yields_List}
use Rattle.bids.proofs.Chains.{largest-list}
use Rattle.bids.proofs.points.Curve.largest_mwh.Goals as goal

pub returns : goal.returns
returns c =
    let s = c.args.self in
    let most = max_from_yields_List c.copied.result c.max.result c.max.ensures.ran (YieldsList-from_copied (YieldsList-from_slice s.mwh.now cc)) in
    c.unwrap_or.ensures ∙ ap (λ o. unwrap_or o 0) (sym (option_map_id c.max.result) ∙ most) ∙ largest-list s.mwh.now s.prices.now s.fit.equal
