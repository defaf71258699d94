-- `Post::import_posted`: the product is at most 640,000 x 1,000,000, so it fits both types.
use borrow.Author.Tests.{leb-true}
use Rattle.amounts.proofs.Signed.{mul_mono}
use Rattle.amounts.proofs.Steps.{quantity}
use Rattle.formulas.specs.Stages.{import_posted}
use Rattle.formulas.proofs.stages.Post.import_posted.Goals as goal

pub returns : goal.returns
unfolding import_posted
returns c =
    let s = c.args.self in
    (quantity (mul_mono (leb-true s.schedule 640000 s.schedule_value) (leb-true s.differential 1000000 s.differential_value)) tt).is
