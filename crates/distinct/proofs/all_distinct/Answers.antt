-- Each place is compared with the chain of its bucket, which leads to every number before it that could be its own.
-- Assumes nothing.
use native.Mathlib.Omega.{arith}
use Rattle.distinct.proofs.Laws.{chains_start, chains_pass, chains_grow}
use Rattle.distinct.proofs.all_distinct.Goals as goal
use Rattle.distinct.proofs.all_distinct.Goals.{then-code-gt0+else-met_before, else-code-gt0}

pub loop-place-init : goal.loop-place-init
loop-place-init c = chains_start _

pub loop-place-preserved : goal.loop-place-preserved
loop-place-preserved c =
    let chains = c.loop-place.invariant in
    elim c.if-code-gt0.branch [
      | then-code-gt0+else-met_before w ↦
          rw (w.latest-is, w.links-is)
          (chains_grow _ _ _ _ chains _ (omega arith) w.bucket-b.ensures (omega arith) (w.met_before.ensures.unmet w.if-met_before.false))
      | else-code-gt0 w ↦ rw (w.latest-is, w.links-is) (chains_pass _ _ _ _ chains (omega arith))
    ]
