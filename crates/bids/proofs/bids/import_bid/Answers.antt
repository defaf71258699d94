-- `bids::import_bid`: a product of at most 10,000,000,000.
use mathlib.Core.Path.{ap, ◌∙◌}
use Prim.Native.Nat.{ℕ, ◌*◌, ◌≤◌}
use native.Mathlib.Omega.{arith}
use borrow.Author.Tests.{leb-true}
use lib.IntN.{pos}
use Rattle.amounts.proofs.Steps.{quantity}
use Rattle.bids.specs.Bids.{import_bid}
use Rattle.bids.proofs.Curves.{import-small}
use Rattle.bids.proofs.bids.import_bid.Goals as goal

small : (c : goal.After-largest_mwh) → c.largest_mwh.result * c.args.differential ≤ 10000000000
small c =
    let s = c in
    rw c.largest_mwh.ensures (import-small c.args.points.fit s.args.differential (leb-true s.args.differential 1000000 s.requires))

pub overflow_mul-result : goal.overflow_mul-result
overflow_mul-result c = omega (arith, small c)

pub overflow_cast-result : goal.overflow_cast-result
overflow_cast-result c = record { sfits = omega (arith, small c) }

pub returns : goal.returns
unfolding import_bid
returns c = (quantity (small c) tt).is ∙ ap (λ (n : ℕ). pos (n * c.args.differential)) c.largest_mwh.ensures
