-- `seen`: the batch at hand is that of the places passed.
use mathlib.Core.Path.{◌≡◌, subst}
use native.Mathlib.Omega.{arith}
use borrow.Author.Rules.{rules}
use Rattle.batches.proofs.Walked.{Passed, sane-at, passed_none, passed-light, passed-more, passed_all}
use Rattle.batches.proofs.closing.seen.Goals as goal

pub loop-r-init : goal.loop-r-init
loop-r-init c =
    let s = c.args.listing in
    passed_none s.hour s.paths.now s.prices.now c.args.records.now (search rules) c.nothing-batch.result c.nothing-batch.ensures

pub loop-r-preserved : goal.loop-r-preserved
loop-r-preserved c =
    let s = c.args.listing in
    passed-more s.hour s.paths.now s.prices.now c.args.records.now (search rules) c.loop-r.batch c.loop-r.r-index c.loop-r-test.true c.loop-r.invariant c.with-batch.result c.with-batch.ensures

pub with-batch-requires-clause-light : goal.with-batch-requires-clause-light
with-batch-requires-clause-light c =
    let s = c.args.listing in
    passed-light s.hour s.paths.now s.prices.now c.args.records.now (search rules) c.loop-r.batch c.loop-r.r-index c.loop-r-test.true c.loop-r.invariant

pub with-batch-requires-clause-r_value : goal.with-batch-requires-clause-r_value
with-batch-requires-clause-r_value c = sane-at c.args.records.now c.requires c.loop-r.r-index

pub returns : goal.returns
returns c =
    let s = c.args.listing in
    let z : c.loop-r.r-index ≡ 256 = omega arith in
    passed_all s.hour s.paths.now s.prices.now c.args.records.now (search rules) c.loop-r.batch (subst (Passed s.hour s.paths.now s.prices.now c.args.records.now c.loop-r.batch) z c.loop-r.invariant)
