-- `seen`: the batch at hand is that of the places passed.
use Rattle.batches.proofs.Walked.{Passed}
use Rattle.batches.proofs.closing.seen.Given as goal

abbrev pub invariant-loop-r : goal.invariant-loop-r
invariant-loop-r l = Passed l.fn.listing.hour l.fn.listing.paths.now l.fn.listing.prices.now l.fn.records l.batch l.r-index
