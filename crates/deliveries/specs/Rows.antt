-- Document 01, 'Turned away, and why': rows 6 to 9 as they concern the numbers of a post, a finish and a bill, and row 12 as it concerns posting kinds 3 and 5.
-- Assumes nothing.
use Rattle.std.specs.Prelude.{not, ◌&&◌, List, [], ◌∷◌, ◌++◌, ℕ, eqb, ℤ}
use Rattle.amounts.specs.Limits.{is_quantity, is_price, is_bill}
use Rattle.refusals.specs.Refusals.{Row, row}
use Rattle.kinds.specs.Kinds.{never, rules_of, differential_fits, pending_fits, prices_fit}

-- 6 'a quantity out of range' and 7 'a price out of range or not 0 where it must be', of a post or a finish
unfoldable pub delivery_rows : ℕ → ℕ → ℤ → ℤ → List Row
delivery_rows kind mwh price second = row 6 (not (is_quantity mwh)) ∷ row 7 (not (prices_fit (rules_of kind) price second)) ∷ []

-- ---- the rows of each entry, in 01's order

-- of the posted amount: 6, 7, 8, and 12 'Post .. is not for kind 3', '12 for posting kind 5' (02, order 3)
unfoldable pub posted_rows : ℕ → ℕ → ℕ → ℤ → ℤ → List Row
posted_rows kind differential schedule price second =
    delivery_rows kind schedule price second ++ (row 8 (not (differential_fits (rules_of kind) differential)) ∷ row 12 (eqb (rules_of kind).posted never) ∷ [])

-- of the finished amount: 6, 7, and 9 of the posted amount that it starts from
unfoldable pub finished_rows : ℕ → ℕ → ℤ → ℤ → ℕ → ℤ → ℤ → List Row
finished_rows kind schedule day_ahead posted_cents actual price second =
    row 6 (not (is_quantity schedule && is_quantity actual))
    ∷ row 7 (not (is_price day_ahead && prices_fit (rules_of kind) price second))
    ∷ row 9 (not (pending_fits (rules_of kind) posted_cents))
    ∷ []

-- of a bill: 9
unfoldable pub bill_rows : ℤ → List Row
bill_rows amount = row 9 (not (is_bill amount)) ∷ []
