-- The points of a bid of one curve, and the two lists that bring them: 01, Messages and stages: 'Points come as two lent lists of equal length, MWh and prices'.
-- Any two lists of equal length are those of some points: lists-of, proofs/Points.antt.
-- Assumes nothing.
use Rattle.std.specs.Prelude.{List, map, ℕ, ◌*◌, ℤ}
pub use Rattle.bids.specs.declared.types.Point.{Point}

-- so many MWh, at so many cents per MWh
abbrev pub point : ℕ → ℤ → Point
point mwh price = record { mwh = mwh; price = price }

abbrev pub mwhs_of : List Point → List ℕ
mwhs_of points = map (λ (q : Point). q.mwh) points

abbrev pub prices_of : List Point → List ℤ
prices_of points = map (λ (q : Point). q.price) points

-- 'multiplying every MWh by a whole number': the prices stay
abbrev pub multiplied : ℕ → List Point → List Point
multiplied n points = map (λ (q : Point). point (n * q.mwh) q.price) points
