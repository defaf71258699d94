-- The walk along the chain passes over no number of the bucket, so at its end none before the place is the place's own.
-- Assumes nothing.
use Rattle.std.proofs.Common.{rules}
use Rattle.distinct.proofs.Laws.{walk_goes}
use Rattle.distinct.proofs.met_before.Goals as goal

pub loop-at-preserved : goal.loop-at-preserved
loop-at-preserved c = walk_goes c.args.codes.now c.args.place c.requires.nonzero c.loop-at.at _ (search rules) c.loop-at.invariant c.args.links.now c.requires.linked (search rules)
