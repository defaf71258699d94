-- `Finish::hour_ahead_finished`: the code is the formula, and its product fits.
use Rattle.amounts.proofs.Steps.{kept, got, lit0, ◌times◌, ◌larger◌}
use Rattle.formulas.specs.Stages.{hour_ahead_finished}
use Rattle.formulas.proofs.Given.{mwh, price}
use Rattle.formulas.proofs.stages.Finish.hour_ahead_finished.Goals as goal

pub returns : goal.returns
unfolding hour_ahead_finished
returns c =
    let s = c.args.self in
    (kept (got c.floored.ensures (kept (mwh s.actual s.actual_value times price s.price s.price_value) tt larger lit0)) tt).is
