-- `Post::wheel_posted`: the code is the formula, step by step, and each step fits.
use Rattle.amounts.proofs.Steps.{kept, got, lit0, ◌minus◌, ◌times◌, ◌larger◌}
use Rattle.formulas.specs.Stages.{wheel_posted}
use Rattle.formulas.proofs.Given.{mwh, price}
use Rattle.formulas.proofs.stages.Post.wheel_posted.Goals as goal

pub returns : goal.returns
unfolding wheel_posted
returns c =
    let s = c.args.self in
    let product = mwh s.schedule s.schedule_value times kept (price s.price s.price_value minus price s.second s.second_value) tt in
    (kept (got c.floored.ensures (kept product tt larger lit0)) tt).is
