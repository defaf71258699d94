-- A loop that walks the points from their end: one step back is one point more at the front of those passed.
-- Assumes nothing.
use mathlib.Core.Path.{◌≡◌, sym, ap, ◌∙◌}
use mathlib.Core.List.{List, [], ◌∷◌}
use Prim.Native.Nat.{ℕ, ◌-◌, ◌≤◌, ◌<◌}
use native.Mathlib.Omega.{arith}
use lib.IntN.{ℤ, pos}
use lib.ListN.{length, get_or, drop}
use lib.Seq.{drop-length}
use Rattle.amounts.proofs.Walks.{drop-back}
use Rattle.bids.specs.Points.{Point, curve}

-- the points from place i on
abbrev pub rest : List ℕ → List ℤ → ℕ → List Point
rest ms ps i = curve (drop i ms) (drop i ps)

abbrev pub point_at : List ℕ → List ℤ → ℕ → Point
point_at ms ps i = record { mwh = get_or ms i 0; price = get_or ps i (pos 0) }

pub rest-none : (ms : List ℕ) (ps : List ℤ) → rest ms ps (length ms) ≡ []
rest-none ms ps = ap (λ (l : List ℕ). curve l (drop (length ms) ps)) (drop-length ms)

pub rest_back : (ms : List ℕ) (ps : List ℤ) (i : ℕ) → 0 < i → i ≤ length ms → length ms ≡ length ps → rest ms ps (i - 1) ≡ point_at ms ps (i - 1) ∷ rest ms ps i
rest_back ms ps i h g e = rw (drop-back ms i 0 h g, drop-back ps i (pos 0) h (omega arith))

-- what is taken from the points passed, with one more
pub rest-step : {X : Type 0} (f : List Point → X) (ms : List ℕ) (ps : List ℤ) (i : ℕ) → 0 < i → i ≤ length ms → length ms ≡ length ps → {q : Point} → q ≡ point_at ms ps (i - 1) → f (q ∷ rest ms ps i) ≡ f (rest ms ps (i - 1))
rest-step f ms ps i h g e {q} w = ap (λ (x : Point). f (x ∷ rest ms ps i)) w ∙ ap f (sym (rest_back ms ps i h g e))

-- at the start of the lists, the walk has passed them all
pub rest_all : {X : Type 0} (f : List Point → X) (ms : List ℕ) (ps : List ℤ) (i : ℕ) → i ≡ 0 → f (rest ms ps i) ≡ f (curve ms ps)
rest_all f ms ps i e = ap (λ (n : ℕ). f (rest ms ps n)) e
