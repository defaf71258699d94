-- For the code's own steps alone: what they ask of the numbers that they add, so that no sum leaves an i64. Nothing here is the paper's: the book shows it of every sound book.
-- Assumes nothing.
use Rattle.std.specs.Prelude.{ℕ}
use Rattle.amounts.specs.Amount.{Within}
use Rattle.messages.specs.declared.types.Change.TheVariants.{Add, Rebid, Advance, Remove, AddPending}
use Rattle.messages.specs.declared.types.Deed.{Deed}
use Rattle.messages.specs.declared.types.Deed.TheVariants.{Keyed, SetSupport, CloseHour}
use Rattle.credit.specs.Credit.{Totals}
use Rattle.credit.specs.Sums.{Sums}

-- both sums at most n from zero; those of 256 records are within 332,800,000,000,000, and 400,000,000,000,000 leaves room for what a message moves
pub record SumsWithin (n : ℕ) (s : Sums) : Type 0 where
  pub unbilled : Within n s.unbilled
  pub owed : Within n s.owed

pub record TotalsBounded (t : Totals) : Type 0 where
  pub held : Within 800000000000000 t.held
  pub owed : Within 400000000000000 t.owed

-- the requirements that a deed brings
abbrev pub DeedBounded : Deed → Type 0
DeedBounded (Keyed (Add r)) = Within 1300000000000 r.requirement
DeedBounded (Keyed (Rebid was r)) = Within 1300000000000 was × Within 1300000000000 r.requirement
DeedBounded (Keyed (Advance r)) = Unit {0}
DeedBounded (Keyed (Remove k)) = Unit {0}
DeedBounded (Keyed (AddPending r)) = Unit {0}
DeedBounded (SetSupport support) = Unit {0}
DeedBounded (CloseHour hour) = Unit {0}
