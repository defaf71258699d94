-- `listed`: a step back over the list.
use mathlib.Core.Path.{◌≡◌, sym, subst, ◌∙◌}
use mathlib.Core.Bool.{true}
use mathlib.Core.List.{List}
use Prim.Native.Nat.{ℕ}
use native.Mathlib.Omega.{arith}
use lib.ListN.{replicate}
use Rattle.std.proofs.Common.{rules}
use Rattle.closings.proofs.Listing.{Walked, begun, here_low, walked_more}
use Rattle.closings.proofs.lists.listed.Goals as goal

pub loop-i-init : goal.loop-i-init
loop-i-init c =
    let paths = c.args.paths.now in
    let e : c.into_iter-i-iterator.result.iter.iter.rest.now ≡ paths = search rules in
    (search rules, subst (λ (l : List ℕ). Walked paths (replicate {A = ℕ} 1024 0) true l) (sym e) (begun paths))

pub offset_bounds-places-path : goal.offset_bounds-places-path
offset_bounds-places-path c =
    omega (arith, here_low c.args.paths.now c.loop-i.places c.loop-i.once _ _ c.in-Some.field-0-1.now c.requires c.loop-i.invariant.1 c.in-Some.ensures.steps.1.0)

pub bounds-places-path : goal.bounds-places-path
bounds-places-path c =
    here_low c.args.paths.now c.loop-i.places c.loop-i.once _ _ c.in-Some.field-0-1.now c.requires c.loop-i.invariant.1 c.in-Some.ensures.steps.1.0

pub offset_bounds-places-path-in-loop-i : goal.offset_bounds-places-path-in-loop-i
offset_bounds-places-path-in-loop-i c =
    omega (arith, here_low c.args.paths.now c.loop-i.places c.loop-i.once _ _ c.in-Some.field-0-1.now c.requires c.loop-i.invariant.1 c.in-Some.ensures.steps.1.0)

pub bounds-places-path-in-loop-i : goal.bounds-places-path-in-loop-i
bounds-places-path-in-loop-i c =
    here_low c.args.paths.now c.loop-i.places c.loop-i.once _ _ c.in-Some.field-0-1.now c.requires c.loop-i.invariant.1 c.in-Some.ensures.steps.1.0

pub loop-i-preserved : goal.loop-i-preserved
loop-i-preserved c =
    let steps = c.in-Some.ensures.steps in (
      steps.0 ∙ c.loop-i.invariant.0,
      walked_more c.args.paths.now c.loop-i.places c.loop-i.once _ _ c.in-Some.field-0-1.now c.requires c.loop-i.invariant.1 steps.1.0 c.in-Some.i (omega (arith, steps.1.1, c.loop-i.invariant.0)),
    )
