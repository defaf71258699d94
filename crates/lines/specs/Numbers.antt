-- The numbers of a line, which is a list of bytes: what `numbers.rt` reads.
-- Assumes nothing.
use Rattle.std.specs.Prelude.{Bool, false, not, ◌&&◌, cond, List, [], ◌∷◌, ℕ, ◌+◌, ◌*◌, ◌-◌, ltb, leb, eqb, ℤ, pos, neg_ℤ, length, get_or}
use Rattle.amounts.specs.Limits.{between}

abbrev pub most : ℕ
most = 1000000000000000000

-- from '0' to '9'
abbrev pub is_digit : ℕ → Bool
is_digit byte = between 48 57 byte

-- One digit more; past the most, a number stays as it is.
unfoldable pub longer : ℕ → ℕ → ℕ
longer magnitude byte = cond (ltb magnitude most) (magnitude * 10 + (byte - 48)) magnitude

-- A number as far as it was read, with the digits that follow.
unfoldable pub read : ℕ → List ℕ → ℕ
read magnitude [] = magnitude
read magnitude (byte ∷ rest) = cond (is_digit byte) (read (longer magnitude byte) rest) magnitude

pub record Number : Type 0 where
  pub negative : Bool
  pub magnitude : ℕ

-- A number begins at a digit that follows no other: it is all the digits from there on.
abbrev pub begins : ℕ → ℕ → Bool
begins last byte = is_digit byte && not (is_digit last)

-- The byte before a number tells its sign: '-' is below 0.
unfoldable pub number_at : ℕ → List ℕ → Number
number_at last bytes = record { negative = eqb last 45; magnitude = read 0 bytes }

-- The numbers of what follows a byte.
unfoldable pub numbers_after : ℕ → List ℕ → List Number
numbers_after last [] = []
numbers_after last (byte ∷ rest) = cond (begins last byte) (number_at last (byte ∷ rest) ∷ numbers_after byte rest) (numbers_after byte rest)

-- A line begins as after a space.
unfoldable pub numbers : List ℕ → List Number
numbers line = numbers_after 32 line

abbrev pub count_of : List ℕ → ℕ
count_of line = length (numbers line)

-- A number that a line lacks is 0.
abbrev pub lacking : Number
lacking = record { negative = false; magnitude = 0 }

-- The number with n before it.
unfoldable pub number_of : List ℕ → ℕ → Number
number_of line n = get_or (numbers line) n lacking

-- Without its sign.
abbrev pub whole_of : List ℕ → ℕ → ℕ
whole_of line n = (number_of line n).magnitude

-- With its sign; past the most, 0.
unfoldable pub with_sign : Bool → ℕ → ℤ
with_sign negative magnitude = cond (leb magnitude most) (cond negative (neg_ℤ (pos magnitude)) (pos magnitude)) (pos 0)

abbrev pub signed_of : List ℕ → ℕ → ℤ
signed_of line n = with_sign (number_of line n).negative (number_of line n).magnitude
