-- `written`: the places passed are written, and the others are as they were.
use Rattle.batches.specs.Batches.{batched}
use Rattle.batches.proofs.Walked.{Done}
use Rattle.batches.proofs.closing.written.Given as goal

abbrev pub invariant-loop-r : goal.invariant-loop-r
invariant-loop-r l = Done (batched l.fn.much l.fn.listing.hour l.fn.listing.paths.now l.fn.listing.prices.now) l.fn.records l.r-items l.r-index
