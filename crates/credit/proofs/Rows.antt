-- The rows of refusals 14 to 16 have their numbers.
-- Assumes nothing.
use mathlib.Core.Path.{◌≡◌, refl}
use mathlib.Core.Bool.{true}
use Rattle.refusals.proofs.Laws.{numbered}
use Rattle.messages.specs.declared.types.Change.TheVariants.{Add, Rebid, Advance, Remove, AddPending}
use Rattle.messages.specs.declared.types.Deed.{Deed}
use Rattle.messages.specs.declared.types.Deed.TheVariants.{Keyed, SetSupport, CloseHour}
use Rattle.credit.specs.Credit.{Totals, credit_rows}

pub credit-rows-numbered : (t : Totals) (d : Deed) → numbered (credit_rows t d) ≡ true
unfolding numbered
credit-rows-numbered t (Keyed (Add r)) = refl
credit-rows-numbered t (Keyed (Rebid was r)) = refl
credit-rows-numbered t (Keyed (Advance r)) = refl
credit-rows-numbered t (Keyed (Remove k)) = refl
credit-rows-numbered t (Keyed (AddPending r)) = refl
credit-rows-numbered t (SetSupport support) = refl
credit-rows-numbered t (CloseHour hour) = refl
