-- The import test of document 01, and what it answers in the paper's numbers.
use Rattle.std.specs.Prelude.{◌⊎◌, Bool, true, false, ◌||◌, ℕ, ◌*◌, ◌≤◌, ◌<◌, leb, ltb, Option, Some, None, Result, Ok, Err}
use Rattle.history.specs.declared.Window.{Window}
use Rattle.history.specs.declared.History.{History}
use Rattle.history.specs.declared.Contradiction.{Contradiction}

-- whether the imports are exempt, or a refusal
abbrev pub Answer : Type 0
Answer = Result Bool Contradiction

abbrev pub Refused : Answer
Refused = Err (record {})

-- 01, the import test: "each 0 to 10^9", and "17: out of range, loss above MWh"
abbrev pub faulty : Window → Bool
faulty w = ltb 1000000000 w.bids || ltb 1000000000 w.mwh || ltb 1000000000 w.loss || ltb w.mwh w.loss

-- 01, the import test: "any six-month number below its three-month one"
abbrev pub below : Window → Window → Bool
below six three = ltb six.bids three.bids || ltb six.mwh three.mwh || ltb six.loss three.loss

-- 01, Turned away: "17 import test: windows contradict"
unfoldable pub contradict : History → Bool
contradict h = faulty h.three || faulty h.six || below h.six h.three

-- 01, the import test: "50 or more"; 001, 26.4.2.2.1 (i), "at least 50 scheduled Day-Ahead Import Bids"
abbrev pub enough : Window → Bool
enough w = leb 50 w.bids

abbrev pub either : Bool → Option Window → Option Window → Option Window
either true a b = a
either false a b = b

-- 01, the import test: "If the three-month bids are 50 or more that window counts, else if the six-month bids are 50 or more that one, else none"
unfoldable pub counted : History → Option Window
counted h = either (enough h.three) (Some h.three) (either (enough h.six) (Some h.six) None)

abbrev pub choose : Bool → Answer → Answer → Answer
choose true a b = a
choose false a b = b

-- 01, the import test: "4 x loss is below its MWh"; 001, 26.4.2.2.1 (ii), "fewer than 25% of the MWhs .. settled at a loss"
abbrev pub judged : Window → Bool
judged w = ltb (4 * w.loss) w.mwh

abbrev pub judged_if : Option Window → Bool
judged_if None = false
judged_if (Some w) = judged w

-- 01, the import test: "Exempt exactly when a window counts and 4 x loss is below its MWh"
unfoldable pub import_test : History → Answer
import_test h = choose (contradict h) Refused (Ok (judged_if (counted h)))

-- 01, Turned away: the number of an answer; "17 and 18 answer 0 besides"
abbrev pub number_of : Answer → ℕ
number_of (Ok true) = 0
number_of (Ok false) = 0
number_of (Err e) = 17

abbrev pub exempt_of : Answer → ℕ
exempt_of (Ok true) = 1
exempt_of (Ok false) = 0
exempt_of (Err e) = 0

-- a window whose numbers are in range, its loss within its MWh
pub record Coherent (w : Window) : Type 0 where
  pub bids_most : w.bids ≤ 1000000000
  pub mwh_most : w.mwh ≤ 1000000000
  pub loss_most : w.loss ≤ 1000000000
  pub loss_in_mwh : w.loss ≤ w.mwh

-- windows that do not contradict: no six-month number below its three-month one
pub record Consistent (h : History) : Type 0 where
  pub three : Coherent h.three
  pub six : Coherent h.six
  pub bids : h.three.bids ≤ h.six.bids
  pub mwh : h.three.mwh ≤ h.six.mwh
  pub loss : h.three.loss ≤ h.six.loss

-- 001, 26.4.2.2.1: at least 50 bids in three months, or fewer than these and at least 50 in six, and of that window fewer than 25% at a loss
abbrev pub Exempts : History → Type 0
Exempts h =
    ((50 ≤ h.three.bids) × (4 * h.three.loss < h.three.mwh))
    ⊎ ((h.three.bids < 50) × ((50 ≤ h.six.bids) × (4 * h.six.loss < h.six.mwh)))
