-- No row of an entry has the number 0.
-- Assumes nothing.
use mathlib.Core.Path.{◌≡◌, refl}
use mathlib.Core.Bool.{true}
use mathlib.Core.List.{◌∷◌}
use Prim.Native.Nat.{ℕ}
use lib.IntN.{ℤ}
use Rattle.refusals.proofs.Laws.{numbered}
use Rattle.kinds.specs.Kinds.{kind_row}
use Rattle.deliveries.specs.Rows.{delivery_rows, posted_rows, finished_rows, bill_rows}

pub delivery-rows-numbered : (kind mwh : ℕ) (price second : ℤ) → numbered (delivery_rows kind mwh price second) ≡ true
unfolding numbered delivery_rows
delivery-rows-numbered kind mwh price second = refl

pub posted-rows-numbered : (kind differential schedule : ℕ) (price second : ℤ) → numbered (kind_row kind ∷ posted_rows kind differential schedule price second) ≡ true
unfolding numbered posted_rows delivery_rows
posted-rows-numbered kind differential schedule price second = refl

pub finished-rows-numbered : (kind schedule : ℕ) (day_ahead posted : ℤ) (actual : ℕ) (price second : ℤ) → numbered (kind_row kind ∷ finished_rows kind schedule day_ahead posted actual price second) ≡ true
unfolding numbered finished_rows
finished-rows-numbered kind schedule day_ahead posted actual price second = refl

pub bill-rows-numbered : (amount : ℤ) → numbered (bill_rows amount) ≡ true
unfolding numbered bill_rows
bill-rows-numbered amount = refl
