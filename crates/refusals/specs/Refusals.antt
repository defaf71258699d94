-- Document 01, 'Turned away, and why': rows in the paper's order, and the first that applies.
-- Assumes nothing.
use Rattle.std.specs.Prelude.{◌≡◌, Bool, true, false, cond, List, [], ◌∷◌, ◌⊎◌, ℕ, eqb, Result, Ok, Err}
pub use Rattle.refusals.specs.declared.Refusal.{Refusal}
pub use Rattle.refusals.specs.declared.Refusal.TheVariants.{Unsound, Kind, Path, Hour, Points, Quantity, Price, Differential, Amount, AlreadyOpen, NotOpen, WrongStage, AboveBid, Suspended, Full, AboveSupport}

-- the table: the number of each refusal
abbrev pub number_of : Refusal → ℕ
number_of Unsound = 1
number_of Kind = 2
number_of Path = 3
number_of Hour = 4
number_of Points = 5
number_of Quantity = 6
number_of Price = 7
number_of Differential = 8
number_of Amount = 9
number_of AlreadyOpen = 10
number_of NotOpen = 11
number_of WrongStage = 12
number_of AboveBid = 13
number_of Suspended = 14
number_of Full = 15
number_of AboveSupport = 16

-- 01, the table: a row's number, and whether it applies
pub record Row : Type 0 where
  pub number : ℕ
  pub applies : Bool

abbrev pub row : ℕ → Bool → Row
row n t = record { number = n; applies = t }

-- 01: 'Checked in this order; the first that applies is given'. 0 where none does
unfoldable pub first : List Row → ℕ
first [] = 0
first (r ∷ rs) = cond r.applies r.number (first rs)

-- what is answered: a refusal's number, or what is asked for
pub data Verdict (X : Type 0) : Type 0 where
  refuse : ℕ → Verdict X
  accept : X → Verdict X

module _ {X : Type 0} where
  -- what the code answers, by the numbers of the table
  abbrev pub verdict_of : Result X Refusal → Verdict X
  verdict_of (Ok x) = accept x
  verdict_of (Err e) = refuse (number_of e)

  -- the answer that goes with a number; 0 is no refusal
  unfoldable pub answered : ℕ → X → Verdict X
  answered n x = cond (eqb n 0) (accept x) (refuse n)

  -- a message's answer: the first of its rows that applies, else what it asks for
  unfoldable pub judge : List Row → X → Verdict X
  judge rs x = answered (first rs) x

-- two tables, one below the other, by what each gives
unfoldable pub or_else : ℕ → ℕ → ℕ
or_else above below = cond (eqb above 0) below above

-- 'none of the refusals applies', and 'n is the first that applies', row by row: what `first` is held to
unfoldable pub None : List Row → Type 0
None [] = Unit {0}
None (r ∷ rs) = (r.applies ≡ false) × None rs

unfoldable pub First : ℕ → List Row → Type 0
First n [] = ⊥
First n (r ∷ rs) = ((r.applies ≡ true) × (r.number ≡ n)) ⊎ ((r.applies ≡ false) × First n rs)
