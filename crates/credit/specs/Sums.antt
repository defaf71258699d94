-- For the code's own steps alone: a book's requirements in two parts, unbilled and owed, as a walk adds them up and a message moves them. Nothing here is
-- the paper's: held is defined in crate `book`, specs/Books.antt, and `held-is` in its proofs/Sums.antt says that it is `held_of` of the two parts.
-- Assumes nothing.
use Rattle.std.specs.Prelude.{Bool, cond, List, eqb, ℤ, pos, ◌+ℤ◌, ◌-ℤ◌}
use Rattle.amounts.specs.Lists.{total}
use Rattle.kinds.specs.Kinds.{billed_stage}
use Rattle.records.specs.declared.types.Record.{Record}
use Rattle.credit.specs.Account.{Account, totalled, keeps_totals}
use Rattle.credit.specs.Credit.{owes}
pub use Rattle.credit.specs.declared.types.Sums.{Sums}

-- what of a record is not owed yet
unfoldable pub unbilled_of : Record → ℤ
unbilled_of r = cond (eqb r.stage billed_stage) (pos 0) r.requirement

abbrev pub no_sums : Sums
no_sums = record { unbilled = pos 0; owed = pos 0 }

abbrev pub parts_of : Record → Sums
parts_of r = record { unbilled = unbilled_of r; owed = owes r }

-- of a list of places
abbrev pub sums_of : List Record → Sums
sums_of places = record { unbilled = total unbilled_of places; owed = total owes places }

abbrev pub with_record : Sums → Record → Sums
with_record s r = record { unbilled = s.unbilled +ℤ unbilled_of r; owed = s.owed +ℤ owes r }

abbrev pub without_record : Sums → Record → Sums
without_record s r = record { unbilled = s.unbilled -ℤ unbilled_of r; owed = s.owed -ℤ owes r }

unfoldable pub held_of : ℤ → ℤ → ℤ
held_of unbilled owed = unbilled +ℤ owed

-- what is kept, by the two sums of a walk
abbrev pub summed : Account → Sums → Account
summed account s = totalled account (held_of s.unbilled s.owed) s.owed

abbrev pub keeps_sums : Account → Sums → Bool
keeps_sums account s = keeps_totals account (held_of s.unbilled s.owed) s.owed
