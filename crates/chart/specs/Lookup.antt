-- The lookup in the chart of an edition, and what it answers in the paper's numbers.
use Rattle.std.specs.Prelude.{Bool, true, false, cond, ◌&&◌, ◌||◌, ℕ, leb, eqb, Some, None, unwrap_or, Result, Ok, Err}
use Rattle.chart.specs.Groups.{eighteen, thirty_three, group_in, time_in_range}
use Rattle.chart.specs.Published.{differential_of}
use Rattle.chart.specs.declared.Table.{Table}
use Rattle.chart.specs.declared.Table.TheVariants.{Import, Export}
use Rattle.chart.specs.declared.Edition.{Edition}
use Rattle.chart.specs.declared.Edition.TheVariants.{Older, Newer}
use Rattle.chart.specs.declared.Entry.{Entry}
use Rattle.chart.specs.declared.OutOfRange.{OutOfRange}

-- an entry of the chart, or a refusal
abbrev pub Answer : Type 0
Answer = Result Entry OutOfRange

abbrev pub At : ℕ → ℕ → Entry
At group cents = record { group = group; differential = Some cents }

abbrev pub GroupOnly : ℕ → Entry
GroupOnly group = record { group = group; differential = None }

abbrev pub Refused : Answer
Refused = Err (record {})

-- 01, Turned away: "18 lookup: bus, month, day type or hour out of range"
abbrev pub bus_in_range : ℕ → Bool
bus_in_range bus = leb 1 bus && leb bus 10

-- 02, order 5: edition 1 is the chart of 18 groups, edition 2 that of 33
abbrev pub edition_number : Edition → ℕ
edition_number Older = 1
edition_number Newer = 2

-- 02, order 5: "18 covers an unknown edition and an export lookup in the new one"
abbrev pub in_edition : ℕ → Table → Bool
in_edition edition Import = eqb edition 1 || eqb edition 2
in_edition edition Export = eqb edition 1

abbrev pub if_in_range : Bool → Entry → Answer
if_in_range true entry = Ok entry
if_in_range false entry = Refused

-- 01, the chart: the lookup "answers group and differential"; 02, order 5: "The new edition answers the group only"
unfoldable pub answer_in : ℕ → Table → ℕ → ℕ → ℕ → ℕ → Entry
answer_in edition table bus month day_type hour =
    cond (eqb edition 1)
    (At (group_in eighteen month day_type hour) (differential_of table bus (group_in eighteen month day_type hour)))
    (GroupOnly (group_in thirty_three month day_type hour))

unfoldable pub lookup_of : ℕ → Table → ℕ → ℕ → ℕ → ℕ → Answer
lookup_of edition table bus month day_type hour =
    if_in_range (in_edition edition table && bus_in_range bus && time_in_range month day_type hour) (answer_in edition table bus month day_type hour)

-- 01, Turned away: the number of an answer; "17 and 18 answer 0 besides"
abbrev pub number_of : Answer → ℕ
number_of (Ok entry) = 0
number_of (Err e) = 18

abbrev pub group_of : Answer → ℕ
group_of (Ok entry) = entry.group
group_of (Err e) = 0

abbrev pub cents_of : Answer → ℕ
cents_of (Ok entry) = unwrap_or entry.differential 0
cents_of (Err e) = 0
