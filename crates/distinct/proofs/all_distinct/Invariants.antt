-- Each place is compared with the chain of its bucket, which leads to every number before it that could be its own.
-- Assumes nothing.
use Rattle.distinct.proofs.Laws.{Chained}
use Rattle.distinct.proofs.all_distinct.Given as goal

abbrev pub invariant-loop-place : goal.invariant-loop-place
invariant-loop-place l = Chained l.codes l.latest l.links l.place
