-- `Finish::balancing`: at most 640,000 MWh at 1,000,000 cents.
use Rattle.amounts.proofs.Steps.{fits, kept, answer, ◌minus◌, ◌times◌}
use Rattle.formulas.proofs.Given.{mwh, price}
use Rattle.formulas.proofs.stages.Finish.balancing.Goals as goal

pub overflow_mul-result : goal.overflow_mul-result
overflow_mul-result c =
    let s = c.args.self in
    let gap = mwh s.schedule s.schedule_value minus mwh s.actual s.actual_value in
    fits (kept gap tt times price s.price s.price_value) tt

pub returns : goal.returns
returns c =
    let s = c.args.self in
    let gap = mwh s.schedule s.schedule_value minus mwh s.actual s.actual_value in
    answer (kept (kept gap tt times price s.price s.price_value) tt) tt tt
