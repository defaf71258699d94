-- `points_in_range`: `fit` says whether the numbers passed are in range.
use mathlib.Core.Path.{sym, ◌∙◌}
use Rattle.amounts.specs.Limits.{is_point_mwh}
use Rattle.amounts.proofs.Every.{every_on, every_end}
use Rattle.amounts.proofs.lists.points_in_range.Goals as goal

pub loop-mwh-preserved : goal.loop-mwh-preserved
loop-mwh-preserved c =
    let at = c.loop-mwh in
    every_on is_point_mwh c.args.mwh.now at.mwh-index 0 at.fit c.loop-mwh-test.true ∙ at.invariant

pub returns : goal.returns
returns c =
    let at = c.loop-mwh in
    sym (every_end is_point_mwh c.args.mwh.now at.mwh-index at.fit c.loop-mwh-test.false at.auto.mwh-index-end) ∙ at.invariant
