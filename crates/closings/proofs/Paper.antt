-- Source document 002, 'Example CTS HAM Export Bid': 170, 160, 0 and 100 MWh at $30, $40, $50 and $50 require $4,125; 02, order 3: 'The paper's example gives 412,500 cents'.
-- Assumes nothing.
use mathlib.Core.Path.{◌≡◌, refl}
use lib.IntN.{pos}
use Rattle.refusals.specs.Refusals.{first, answered, judge}
use Rattle.refusals.specs.Figures.{refusal_of, cents_of}
use Rattle.intervals.specs.declared.types.Intervals.{Intervals}
use Rattle.closings.specs.Closings.{Quote, hour_cents, quarter_up, closed_requirement, closed_rows, closed_verdict}

abbrev sums : Intervals
sums = record { first = 170; second = 160; third = 0; fourth = 100 }

abbrev prices : Quote
prices = record { first = pos 3000; second = pos 4000; third = pos 5000; fourth = pos 5000 }

pub paper-requirement : closed_requirement sums prices ≡ pos 412500
unfolding closed_requirement hour_cents quarter_up
paper-requirement = refl

-- and the entry answers it
pub paper-answer : (refusal_of (closed_verdict sums prices) ≡ 0) × (cents_of (closed_verdict sums prices) ≡ pos 412500)
unfolding first answered judge closed_requirement hour_cents quarter_up closed_rows closed_verdict
paper-answer = (refl, refl)
