-- What is read off an answer: the number of its refusal, and an amount.
-- Assumes nothing.
use Rattle.std.specs.Prelude.{ℕ, ℤ, pos}
use Rattle.refusals.specs.Refusals.{Verdict, refuse, accept}

-- 01, What is promised: the paper's number and values for each case; 0 is no refusal, and a refusal answers 0 besides
module _ {X : Type 0} where
  abbrev pub refusal_of : Verdict X → ℕ
  refusal_of (accept x) = 0
  refusal_of (refuse n) = n

abbrev pub cents_of : Verdict ℤ → ℤ
cents_of (accept cents) = cents
cents_of (refuse n) = pos 0
