-- `Finish::wheel_finished`: the code is the formula, step by step, and each step fits.
use Rattle.amounts.proofs.Steps.{fits, kept, got, known, lit0, ◌plus◌, ◌minus◌, ◌times◌, ◌larger◌}
use Rattle.formulas.specs.Stages.{wheel_finished}
use Rattle.formulas.proofs.Given.{price, pending}
use Rattle.formulas.proofs.StageLaws.{excess-range}
use Rattle.formulas.proofs.stages.Finish.wheel_finished.Goals as goal

pub overflow_mul-less : goal.overflow_mul-less
overflow_mul-less c =
    let s = c.args.self in
    let difference = price s.price s.price_value minus price s.second s.second_value in
    let below = known c.excess.ensures (excess-range s.schedule s.actual s.schedule_value s.actual_value) in
    fits (kept below tt times kept difference tt) tt

pub overflow_mul-excess : goal.overflow_mul-excess
overflow_mul-excess c =
    let s = c.args.self in
    let difference = price s.price s.price_value minus price s.second s.second_value in
    let over = known c.excess-2.ensures (excess-range s.actual s.schedule s.actual_value s.schedule_value) in
    fits (kept over tt times kept difference tt) tt

pub overflow_sub-result : goal.overflow_sub-result
overflow_sub-result c =
    let s = c.args.self in
    let difference = price s.price s.price_value minus price s.second s.second_value in
    let below = known c.excess.ensures (excess-range s.schedule s.actual s.schedule_value s.actual_value) in
    fits (pending s.posted_cents s.posted_cents_value minus kept (kept below tt times kept difference tt) tt) tt

pub overflow_add-result : goal.overflow_add-result
overflow_add-result c =
    let s = c.args.self in
    let difference = price s.price s.price_value minus price s.second s.second_value in
    let below = known c.excess.ensures (excess-range s.schedule s.actual s.schedule_value s.actual_value) in
    let over = known c.excess-2.ensures (excess-range s.actual s.schedule s.actual_value s.schedule_value) in
    let less = kept below tt times kept difference tt in
    let more = got c.floored-more.ensures (kept (kept over tt times kept difference tt) tt larger lit0) in
    fits (kept (pending s.posted_cents s.posted_cents_value minus kept less tt) tt plus kept more tt) tt

pub returns : goal.returns
unfolding wheel_finished
returns c =
    let s = c.args.self in
    let difference = price s.price s.price_value minus price s.second s.second_value in
    let below = known c.excess.ensures (excess-range s.schedule s.actual s.schedule_value s.actual_value) in
    let over = known c.excess-2.ensures (excess-range s.actual s.schedule s.actual_value s.schedule_value) in
    let less = kept below tt times kept difference tt in
    let more = got c.floored-more.ensures (kept (kept over tt times kept difference tt) tt larger lit0) in
    (kept (kept (pending s.posted_cents s.posted_cents_value minus kept less tt) tt plus kept more tt) tt).is
