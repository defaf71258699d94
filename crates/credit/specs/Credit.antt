-- Document 01, 'Turned away, and why', and 02, order 3: refusals 14 to 16, which see a book's totals and what is asked for, and nothing else;
-- what of a record is owed, and the requirement that an acceptance answers.
-- Assumes nothing.
use Rattle.std.specs.Prelude.{Bool, ◌&&◌, cond, List, [], ◌∷◌, eqb, ℤ, pos, ◌+ℤ◌, ◌-ℤ◌, ◌*ℤ◌}
use Rattle.std.specs.Int.Signed.{lt_z, le_z}
use Rattle.refusals.specs.Refusals.{Row, row}
use Rattle.kinds.specs.Kinds.{billed_stage}
use Rattle.records.specs.declared.types.Record.{Record}
use Rattle.messages.specs.declared.types.Change.{Change}
use Rattle.messages.specs.declared.types.Change.TheVariants.{Add, Rebid, Advance, Remove, AddPending}
use Rattle.messages.specs.declared.types.Deed.{Deed}
use Rattle.messages.specs.declared.types.Deed.TheVariants.{Keyed, SetSupport, CloseHour}
pub use Rattle.credit.specs.declared.types.Totals.{Totals}

-- what of a record is owed: 'Net owed is the sum over stage 4'
unfoldable pub owes : Record → ℤ
owes r = cond (eqb r.stage billed_stage) r.requirement (pos 0)

-- 'The book is suspended exactly when 2 x net owed is at least the support'
abbrev pub reaches_half : ℤ → ℤ → Bool
reaches_half support owed = le_z support (pos 2 *ℤ owed)

unfoldable pub suspended : Totals → Bool
suspended t = reaches_half t.support t.owed

-- 14 'open or revise while suspended', 15 'open with 256 records', 16 'open: held + requirement above support;
-- revise: the new requirement is above the old and held afterwards is above support'
abbrev pub credit_rows : Totals → Deed → List Row
credit_rows t (Keyed (Add r)) = row 14 (suspended t) ∷ row 15 t.full ∷ row 16 (lt_z t.support (t.held +ℤ r.requirement)) ∷ []
credit_rows t (Keyed (Rebid was r)) =
    row 14 (suspended t) ∷ row 16 (lt_z was r.requirement && lt_z t.support (t.held -ℤ was +ℤ r.requirement)) ∷ []
credit_rows t (Keyed (Advance r)) = []
credit_rows t (Keyed (Remove k)) = []
-- 02, order 3: '16 never for opening kind 5'
credit_rows t (Keyed (AddPending r)) = row 14 (suspended t) ∷ row 15 t.full ∷ []
credit_rows t (SetSupport support) = []
credit_rows t (CloseHour hour) = []

-- 'the key's requirement (0 after withdraw, pay ..)'
abbrev pub answered_by : Change → ℤ
answered_by (Add r) = r.requirement
answered_by (Rebid was r) = r.requirement
answered_by (Advance r) = r.requirement
answered_by (Remove k) = pos 0
answered_by (AddPending r) = r.requirement
