-- `Post::export_posted`: the code is the formula, and its product fits.
use Rattle.amounts.proofs.Steps.{kept, got, ◌times◌, ◌larger◌}
use Rattle.formulas.specs.Stages.{export_posted}
use Rattle.formulas.proofs.Given.{mwh, differential, price}
use Rattle.formulas.proofs.stages.Post.export_posted.Goals as goal

pub returns : goal.returns
unfolding export_posted
returns c =
    let s = c.args.self in
    let dearer = got c.larger.ensures (price s.price s.price_value larger differential s.differential s.differential_value) in
    (kept (mwh s.schedule s.schedule_value times kept dearer tt) tt).is
