-- `Finish::import_finished`: the balancing payment less the Day-Ahead sale, floored once; each step fits.
use Rattle.amounts.proofs.Steps.{fits, kept, gave, got, lit0, ◌minus◌, ◌times◌, ◌larger◌}
use Rattle.formulas.specs.Stages.{import_finished}
use Rattle.formulas.proofs.Given.{mwh, price}
use Rattle.formulas.proofs.stages.Finish.import_finished.Goals as goal

pub overflow_mul-self : goal.overflow_mul-self
overflow_mul-self c =
    let s = c.args.self in
    fits (mwh s.schedule s.schedule_value times price s.day_ahead s.day_ahead_value) tt

pub overflow_sub-balancing : goal.overflow_sub-balancing
overflow_sub-balancing c =
    let s = c.args.self in
    let sale = mwh s.schedule s.schedule_value times price s.day_ahead s.day_ahead_value in
    fits (kept (gave c.balancing.ensures) tt minus kept sale tt) tt

pub returns : goal.returns
unfolding import_finished
returns c =
    let s = c.args.self in
    let sale = mwh s.schedule s.schedule_value times price s.day_ahead s.day_ahead_value in
    let owed = kept (gave c.balancing.ensures) tt minus kept sale tt in
    (kept (got c.floored.ensures (kept owed tt larger lit0)) tt).is
