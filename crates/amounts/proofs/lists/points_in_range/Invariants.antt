-- `points_in_range`: those passed fit and those to come are in range where all are.
use mathlib.Core.Path.{◌≡◌}
use mathlib.Core.Bool.{◌&&◌}
use lib.ListN.{drop}
use Rattle.amounts.specs.Lists.{every}
use Rattle.amounts.specs.Limits.{is_point_mwh}
use Rattle.amounts.proofs.lists.points_in_range.Given as goal

abbrev pub invariant-loop-mwh : goal.invariant-loop-mwh
invariant-loop-mwh l = (l.fit && every is_point_mwh (drop l.mwh-index l.fn.mwh)) ≡ every is_point_mwh l.fn.mwh
