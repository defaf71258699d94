-- `records::Record::is_blank` tests every field, in the definition's order.
use mathlib.Core.Path.{◌≡◌}
use native.Mathlib.Omega.{arith}
use lib.Dec.{eqb}
use mir.Syntax.{w64}
use mir.Val.{of_z}
use Rattle.amounts.specs.Limits.{is_nil}
use Rattle.records.specs.Records.{is_blank}
use Rattle.records.proofs.types.Record.is_blank.Goals as goal

pub returns : goal.returns
unfolding is_blank
returns c =
    let price : eqb (of_z w64 c.args.self.price) 0 ≡ is_nil c.args.self.price = grind arith in
    let requirement : eqb (of_z w64 c.args.self.requirement) 0 ≡ is_nil c.args.self.requirement = grind arith in
    rw (c.is_none-2.ensures, c.is_none.ensures, price, requirement)
