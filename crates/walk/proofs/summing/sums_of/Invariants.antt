-- `sums_of`: the places passed are in range, and `sums` are theirs.
use Rattle.walk.proofs.Summed.{Summed}
use Rattle.walk.proofs.summing.sums_of.Given as goal

abbrev pub invariant-loop-record : goal.invariant-loop-record
invariant-loop-record l = Summed l.fn.records l.sums l.record-index
