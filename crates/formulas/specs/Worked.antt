-- Document 01, 'Examples that a program prints': W1 to W14, what each asks of the library and the amount in cents that 01 gives.
-- proofs/Worked.antt shows that the formulas give every amount; the program `worked` is proved to ask the library for these rows.
-- Assumes nothing.
use Rattle.std.specs.Prelude.{false, cond, List, [], ◌∷◌, ℕ, eqb, ℤ, pos, neg_ℤ}
use Rattle.refusals.specs.declared.Bid.{Bid}
use Rattle.refusals.specs.Refusals.{Verdict, refuse, accept}
use Rattle.kinds.specs.Kinds.{import, export, wheel}
use Rattle.bids.specs.Entries.{bid_verdict}
use Rattle.formulas.specs.Entries.{posted_verdict, finished_verdict}

-- what an example asks, its numbers in 01's order
pub data Ask : Type 0 where
  -- kind, MWh, prices, differential
  bid : ℕ → List ℕ → List ℤ → ℕ → Ask
  -- kind, schedule, price, second price, differential
  posted : ℕ → ℕ → ℤ → ℤ → ℕ → Ask
  -- kind, schedule, actual, Day-Ahead price, real-time price, second price, posted amount
  finished : ℕ → ℕ → ℕ → ℤ → ℤ → ℤ → ℤ → Ask

-- the label's number, what is asked, the cents
pub data Example : Type 0 where
  W : ℕ → Ask → ℕ → Example

-- A number that an example does not have is 0. A wheel's prices are at withdrawal and at injection: 01 gives their difference alone, 400 posted and
-- 500 in real time. 'Then' starts from the posted amount of the example before.
abbrev pub examples : List Example
examples =
    W 1 (bid import (27 ∷ 61 ∷ 100 ∷ []) (pos 4600 ∷ pos 5500 ∷ pos 5800 ∷ []) 6000) 600000
    ∷ W 2 (posted import 50 (pos 4000) (pos 0) 6000) 300000
    ∷ W 3 (finished import 50 10 (pos 4000) (pos 6000) (pos 0) (pos 300000)) 40000
    ∷ W 4 (bid export (100 ∷ 90 ∷ 80 ∷ 70 ∷ []) (pos 1000 ∷ pos 1500 ∷ pos 3000 ∷ pos 4500 ∷ []) 1200) 450000
    ∷ W 5 (bid export (100 ∷ 90 ∷ 80 ∷ 70 ∷ []) (pos 1000 ∷ pos 1500 ∷ pos 3000 ∷ pos 4500 ∷ []) 1400) 476000
    ∷ W 6 (posted export 100 (pos 5000) (pos 0) 4000) 500000
    ∷ W 7 (finished export 100 90 (pos 0) (pos 4000) (pos 0) (pos 500000)) 460000
    ∷ W 8 (finished export 100 120 (pos 0) (pos 4000) (pos 0) (pos 500000)) 580000
    ∷ W 9 (bid wheel (30 ∷ 40 ∷ 50 ∷ []) (neg_ℤ (pos 500) ∷ neg_ℤ (pos 400) ∷ pos 200 ∷ []) 0) 16000
    ∷ W 10 (posted wheel 50 (pos 900) (pos 500) 0) 20000
    ∷ W 11 (finished wheel 50 40 (pos 0) (pos 1000) (pos 500) (pos 20000)) 15000
    ∷ W 12 (finished wheel 50 70 (pos 0) (pos 1000) (pos 500) (pos 20000)) 30000
    ∷ W 13 (bid wheel (50 ∷ []) (pos 200 ∷ []) 0) 0
    ∷ W 14 (finished import 50 60 (neg_ℤ (pos 4000)) (pos 6000) (pos 0) (pos 0)) 140000
    ∷ []

-- ---- what the library answers

-- the requirement of a bid, or its refusal
abbrev pub requirement_of : Verdict Bid → Verdict ℤ
requirement_of (accept b) = accept b.cents
requirement_of (refuse n) = refuse n

-- the promises of `bids::bid`, `formulas::posted` and `formulas::finished`; no example is exempt
abbrev pub answer : Ask → Verdict ℤ
answer (bid kind mwhs prices differential) = requirement_of (bid_verdict kind mwhs prices differential false)
answer (posted kind schedule price second differential) = posted_verdict kind differential false schedule price second
answer (finished kind schedule actual day_ahead price second amount) = finished_verdict kind false schedule day_ahead amount actual price second

abbrev pub answers : List Example → List (Verdict ℤ)
answers [] = []
answers (W n ask cents ∷ rows) = answer ask ∷ answers rows

abbrev pub given : List Example → List (Verdict ℤ)
given [] = []
given (W n ask cents ∷ rows) = accept (pos cents) ∷ given rows

-- what the example of a label asks; nothing that is answered, where the table has no such label
abbrev pub asked_in : List Example → ℕ → Ask
asked_in [] label = bid 0 [] [] 0
asked_in (W n ask cents ∷ rows) label = cond (eqb n label) ask (asked_in rows label)

abbrev pub asked : ℕ → Ask
asked label = asked_in examples label
