-- Document 01, 'Requirement at each stage': the points of a bid curve, and what the formulas take from them.
-- Assumes nothing.
use Rattle.std.specs.Prelude.{◌≡◌, cond, List, [], ◌∷◌, ℕ, ◌+◌, ◌*◌, ◌≤◌, max, ℤ, pos, neg_ℤ, ◌*ℤ◌}
use Rattle.std.specs.Int.Signed.{le_z}
use Rattle.amounts.specs.Amount.{up, max_of}
pub use Rattle.bids.specs.declared.types.Point.{Point}

-- 01, Messages and stages: 'Points come as two lent lists of equal length, MWh and prices'
abbrev pub curve : List ℕ → List ℤ → List Point
curve [] ps = []
curve (m ∷ ms) [] = []
curve (m ∷ ms) (p ∷ ps) = record { mwh = m; price = p } ∷ curve ms ps

-- 01, Import: 'bid MWh is the largest MWh of any point'; Wheel: 'Bid MWh is the largest of any point'
unfoldable pub largest_mwh : List Point → ℕ
largest_mwh [] = 0
largest_mwh (q ∷ qs) = max q.mwh (largest_mwh qs)

-- 01, Export: 'Points add up: bid MWh is their sum'
unfoldable pub total_mwh : List Point → ℕ
total_mwh [] = 0
total_mwh (q ∷ qs) = q.mwh + total_mwh qs

-- what a point brings to the MWh at a price: all of it where it is 'priced at p or above'
abbrev pub share : ℕ → Point → ℕ
share p q = cond (le_z (pos p) q.price) q.mwh 0

-- 01, Export: 'MWh of all points priced at p or above'
unfoldable pub mwh_at : ℕ → List Point → ℕ
mwh_at p [] = 0
mwh_at p (q ∷ qs) = share p q + mwh_at p qs

-- 01, Export: 'Price exposure is the largest, over every price p from 0 up, of p x (MWh of all points priced at p or above)'
-- (000, slide 'External Buyers - Bidding Requirements', table A; tariff 26.4.2.2.2 (1))
pub record Exposure (l : List Point) (e : ℕ) : Type 0 where
  pub above : (p : ℕ) → p * mwh_at p l ≤ e
  pub met : (p : ℕ) × (p * mwh_at p l ≡ e)

-- The same number as a function, by the bid prices alone: proofs/Largest.antt shows that it is the exposure (exposure-is)
-- and that nothing else is (exposure-only). A price below 0 is tried as 0, where it brings nothing.
unfoldable pub tried : List Point → List Point → ℕ
tried l [] = 0
tried l (q ∷ qs) = max (up q.price * mwh_at (up q.price) l) (tried l qs)

unfoldable pub exposure : List Point → ℕ
exposure l = tried l l

-- 01, Wheel, Bid: 'the largest of -(MWh x price) over the points, not below 0'
-- (000, slide 'Wheel Through - Bidding Requirements'; tariff 26.4.2.2.3 (1))
unfoldable pub wheel_exposure : List Point → ℤ
wheel_exposure [] = pos 0
wheel_exposure (q ∷ qs) = max_of (neg_ℤ (pos q.mwh *ℤ q.price)) (wheel_exposure qs)
