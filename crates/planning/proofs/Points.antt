-- Any two lists of equal length are those of some points.
-- Assumes nothing.
use mathlib.Core.Path.{◌≡◌, refl, ap}
use mathlib.Core.List.{List, [], ◌∷◌}
use Prim.Native.Nat.{ℕ}
use native.Mathlib.Omega.{arith}
use lib.IntN.{ℤ}
use lib.ListN.{length}
use Rattle.bids.specs.Points.{curve}
use Rattle.planning.specs.Points.{mwhs_of, prices_of}

pub lists_of : (ms : List ℕ) (ps : List ℤ) → length ms ≡ length ps → (mwhs_of (curve ms ps) ≡ ms) × (prices_of (curve ms ps) ≡ ps)
lists_of [] [] e = (refl, refl)
lists_of [] (p ∷ ps) e = absurd (omega arith)
lists_of (m ∷ ms) [] e = absurd (omega arith)
lists_of (m ∷ ms) (p ∷ ps) e =
    let rest = lists_of ms ps (omega arith) in (ap (λ (l : List ℕ). m ∷ l) rest.0, ap (λ (l : List ℤ). p ∷ l) rest.1)
