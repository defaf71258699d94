-- Places chained by bucket: what the private functions ask of one another. The public contract cites none of this.
-- Assumes nothing.
use Rattle.std.specs.Prelude.{◌≡◌, List, Option, None, Some, ℕ, ◌+◌, ◌*◌, ◌/◌, ◌%◌, ◌-◌, ◌≤◌, ◌<◌, get_or}

-- The bucket is below 256, and equal numbers have the same: nothing else is asked of it.
abbrev pub middle_of : ℕ → ℕ
middle_of code = code % 4294967296 * 2654435761 / 65536 % 4294967296

abbrev pub bucket_of : ℕ → ℕ
bucket_of code = middle_of code * middle_of code / 268435456 % 256

-- A place of a chain counted from 1, and 0 for its end.
abbrev pub counted : Option ℕ → ℕ
counted None = 0
counted (Some place) = place + 1

-- Counted from 1, at is the last of the first n places that holds a number of the bucket; 0 for none.
pub record Latest (codes : List ℕ) (bucket n at : ℕ) : Type 0 where
  pub before : at ≤ n
  pub holds : 0 < at → 0 < get_or codes (at - 1) 0
  pub falls : 0 < at → bucket_of (get_or codes (at - 1) 0) ≡ bucket
  pub last : (k : ℕ) → k < n → at ≤ k → bucket_of (get_or codes k 0) ≡ bucket → get_or codes k 0 ≡ 0

-- Each of the first n places that holds a number leads to the last before it in its bucket.
abbrev pub Linked : List ℕ → List ℕ → ℕ → Type 0
Linked codes links n =
    (k : ℕ) → k < n → 0 < get_or codes k 0 → Latest codes (bucket_of (get_or codes k 0)) k (get_or links k 0)

-- The number at the place n stands at none before it.
abbrev pub Unmet : List ℕ → ℕ → Type 0
Unmet codes n = (j : ℕ) → j < n → get_or codes j 0 ≡ get_or codes n 0 → ⊥
