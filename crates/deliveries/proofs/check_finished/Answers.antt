-- `check_finished`: the rows one after another.
use Rattle.std.proofs.Common.{rules}
use Rattle.refusals.specs.Refusals.{judge, answered, first}
use Rattle.deliveries.specs.Rows.{finished_rows}
use Rattle.deliveries.proofs.check_finished.Goals as goal

pub returns-in_err-refuse_if-3 : goal.returns-in_err-refuse_if-3
unfolding judge answered first finished_rows
returns-in_err-refuse_if-3 c = search rules

pub returns : goal.returns
unfolding judge answered first finished_rows
returns c = search rules
