-- `written`: the places passed are written, and the others are as they were.
use mathlib.Core.Path.{◌≡◌, ap, ◌∙◌, subst}
use Prim.Native.Nat.{ℕ}
use native.Mathlib.Omega.{arith}
use borrow.Author.Rules.{rules}
use Rattle.records.specs.Records.{ok_place}
use Rattle.batches.specs.Batches.{batched}
use Rattle.batches.proofs.Walked.{sane-at, Done, done_none, done-here, done_more, done_all}
use Rattle.batches.proofs.closing.written.Goals as goal

pub loop-r-init : goal.loop-r-init
loop-r-init c =
    let s = c.args.listing in
    done_none (batched c.args.much s.hour s.paths.now s.prices.now) c.args.records (search rules)

pub loop-r-preserved : goal.loop-r-preserved
loop-r-preserved c =
    let s = c.args.listing in
    done_more (batched c.args.much s.hour s.paths.now s.prices.now) c.args.records (search rules) c.loop-r.r-items c.loop-r.r-index c.loop-r-test.true c.loop-r.invariant c.batched.result c.batched.ensures

pub batched-requires : goal.batched-requires
batched-requires c =
    let s = c.args.listing in
    ap ok_place (done-here (batched c.args.much s.hour s.paths.now s.prices.now) c.args.records (search rules) c.loop-r.r-items c.loop-r.r-index c.loop-r-test.true c.loop-r.invariant)
    ∙ sane-at c.args.records c.requires c.loop-r.r-index

pub returns : goal.returns
returns c =
    let s = c.args.listing in
    let made = batched c.args.much s.hour s.paths.now s.prices.now in
    let z : c.loop-r.r-index ≡ 256 = omega arith in
    done_all made c.args.records (search rules) c.loop-r.r-items (subst (λ (n : ℕ). Done made c.args.records c.loop-r.r-items n) z c.loop-r.invariant)
