-- `prices_in_range`: `fit` says whether the prices passed are in range.
use mathlib.Core.Path.{◌≡◌, sym, ap, ◌∙◌}
use mathlib.Core.Bool.{Bool, ◌&&◌}
use Prim.Native.Nat.{◌+◌}
use lib.IntN.{pos}
use lib.ListN.{get_or, drop}
use Rattle.amounts.specs.Limits.{is_price}
use Rattle.amounts.specs.Lists.{every}
use Rattle.amounts.proofs.Every.{every_on, every_end}
use mir.Syntax.{w64}
use mir.Val.{SFits}
use Rattle.std.proofs.Common.{rules}
use mir.Facts.{to_z-of_z}
use Rattle.amounts.proofs.lists.prices_in_range.Goals as goal

pub loop-cents-preserved : goal.loop-cents-preserved
loop-cents-preserved c =
    let at = c.loop-cents in
    let ps = c.args.prices.now in
    let price = get_or ps at.cents-index (pos 0) in
    let fits : SFits w64 price = search rules in
    let e : c.in_range-fit.result ≡ is_price price = c.in_range-fit.ensures ∙ ap is_price (to_z-of_z {w = w64} fits) in
    ap (λ (b : Bool). (at.fit && b) && every is_price (drop (at.cents-index + 1) ps)) e
    ∙ every_on is_price ps at.cents-index (pos 0) at.fit c.loop-cents-test.true
    ∙ at.invariant

pub returns : goal.returns
returns c =
    let at = c.loop-cents in
    sym (every_end is_price c.args.prices.now at.cents-index at.fit c.loop-cents-test.false at.auto.cents-index-end) ∙ at.invariant
