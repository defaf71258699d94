-- `listed`: the paths that `rev` has passed are in the table, each at its first place, and `once` says whether each of them is listed once.
use mathlib.Core.Path.{◌≡◌}
use Rattle.closings.proofs.Listing.{Walked}
use Rattle.closings.proofs.lists.listed.Given as goal

abbrev pub invariant-loop-i : goal.invariant-loop-i
invariant-loop-i l = (l.i-iterator.iter.count ≡ 0) × Walked l.paths l.places l.once l.i-iterator.iter.iter.rest.now
