-- For the code's own steps alone: the table of listed paths. Nothing here is the paper's.
-- Assumes nothing.
use Rattle.std.specs.Prelude.{◌≡◌, cond, List, ℕ, ◌+◌, ◌<◌, length, get_or}
use Rattle.distinct.specs.Numbers.{stands_in}
use Rattle.closings.specs.Closings.{place_of}
pub use Rattle.closings.specs.declared.types.Listed.{Listed}

-- where a path stands among these, counted from n + 1; 0 where it is not listed
abbrev pub slot : ℕ → ℕ → List ℕ → ℕ
slot n path l = cond (stands_in path l) (n + place_of path l + 1) 0

-- the table has each path's place, counted from 1
pub record Lists (paths table : List ℕ) : Type 0 where
  pub size : length table ≡ 1024
  pub entry : (path : ℕ) → path < 1024 → get_or table path 0 ≡ slot 0 path paths
