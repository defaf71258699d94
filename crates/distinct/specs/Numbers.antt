-- Numbers that stand apart: none but 0 stands twice in the list.
-- Assumes nothing.
use Rattle.std.specs.Prelude.{Bool, true, false, ◌&&◌, ◌||◌, not, List, [], ◌∷◌, ℕ, eqb}

unfoldable pub stands_in : ℕ → List ℕ → Bool
stands_in c [] = false
stands_in c (d ∷ ds) = eqb c d || stands_in c ds

unfoldable pub all_distinct : List ℕ → Bool
all_distinct [] = true
all_distinct (c ∷ cs) = (eqb c 0 || not (stands_in c cs)) && all_distinct cs
