-- The walk along the chain passes over no number of the bucket, so at its end none before the place is the place's own.
-- Assumes nothing.
use Rattle.distinct.specs.Chain.{counted}
use Rattle.distinct.proofs.Laws.{Walked}
use Rattle.distinct.proofs.met_before.Given as goal

abbrev pub invariant-loop-at : goal.invariant-loop-at
invariant-loop-at l = Walked l.codes l.place (counted l.at)

abbrev pub decreases-loop-at : goal.decreases-loop-at
decreases-loop-at l = counted l.at
