-- What the lookup answers, in the paper's numbers.
use mathlib.Core.Path.{◌≡◌, refl, sym, ◌∙◌}
use mathlib.Core.Bool.{Bool, true, false, cond, ◌&&◌}
use Prim.Native.Nat.{ℕ, ◌≤◌}
use lib.Dec.{eqb}
use native.Mathlib.Omega.{arith}
use Rattle.std.proofs.lemmas.Bool.Decides.{nat_tests}
use Rattle.std.proofs.Common.{Ok}
use Rattle.chart.specs.Groups.{eighteen, thirty_three, group_in, time_in_range}
use Rattle.chart.specs.Published.{differential_of}
use Rattle.chart.specs.Lookup.{Answer, At, GroupOnly, Refused, bus_in_range, in_edition, answer_in, lookup_of, number_of, group_of, cents_of}
use Rattle.chart.specs.declared.Table.{Table}
use Rattle.chart.proofs.Eighteen.{eighteen-parted}
use Rattle.chart.proofs.Places.{Cell, on-chart, bounds}

number_by : (b : Bool) (g x k : ℕ) → number_of (Ok (cond b (At g x) (GroupOnly k))) ≡ 0
number_by true g x k = refl
number_by false g x k = refl

group-by : (b : Bool) (g x k : ℕ) → group_of (Ok (cond b (At g x) (GroupOnly k))) ≡ cond b g k
group-by true g x k = refl
group-by false g x k = refl

cents-by : (b : Bool) (g x k : ℕ) → cents_of (Ok (cond b (At g x) (GroupOnly k))) ≡ cond b x 0
cents-by true g x k = refl
cents-by false g x k = refl

module _ (edition : ℕ) (table : Table) (bus month day_type hour : ℕ) where
  abbrev inside : Bool
  inside = in_edition edition table && bus_in_range bus && time_in_range month day_type hour

  -- of the older edition, and of the newer
  abbrev group : ℕ
  group = group_in eighteen month day_type hour

  abbrev newer : ℕ
  newer = group_in thirty_three month day_type hour

  abbrev answer : Answer
  answer = lookup_of edition table bus month day_type hour

  pub in-older : edition ≡ 1 → answer_in edition table bus month day_type hour ≡ At group (differential_of table bus group)
  unfolding answer_in
  in-older e = grind (arith, nat_tests)

  pub in-newer : (edition ≡ 1 → ⊥) → answer_in edition table bus month day_type hour ≡ GroupOnly newer
  unfolding answer_in
  in-newer n = grind (arith, nat_tests)

  pub answered : inside ≡ true → answer ≡ Ok (answer_in edition table bus month day_type hour)
  unfolding lookup_of
  answered e = grind (arith, nat_tests)

  pub refused : inside ≡ false → answer ≡ Refused
  unfolding lookup_of
  refused e = grind (arith, nat_tests)

  pub in_chart : in_edition edition table ≡ true → bus_in_range bus ≡ true → time_in_range month day_type hour ≡ true → answer ≡ Ok (answer_in edition table bus month day_type hour)
  in_chart e b t = answered (grind (arith, nat_tests))

  pub no_edition : in_edition edition table ≡ false → answer ≡ Refused
  no_edition e = refused (grind (arith, nat_tests))

  pub no_bus : bus_in_range bus ≡ false → answer ≡ Refused
  no_bus e = refused (grind (arith, nat_tests))

  pub no_time : time_in_range month day_type hour ≡ false → answer ≡ Refused
  no_time e = refused (grind (arith, nat_tests))

  -- 01, Turned away, and 02, order 5: 18 exactly when the edition has no such table, or the bus or the time is out of range; 0 besides
  pub number : number_of answer ≡ cond inside 0 18
  unfolding lookup_of answer_in
  number = grind (arith, nat_tests)

  pub groups : group_of answer ≡ cond inside (cond (eqb edition 1) group newer) 0
  unfolding lookup_of answer_in
  groups = grind (arith, nat_tests)

  -- 02, order 5: "The new edition answers the group only"
  pub cents : cents_of answer ≡ cond inside (cond (eqb edition 1) (differential_of table bus group) 0) 0
  unfolding lookup_of answer_in
  cents = grind (arith, nat_tests)

  -- the contract leaves one answer
  pub determined : (r s : Answer) → r ≡ answer → s ≡ answer → r ≡ s
  determined r s p q = p ∙ sym q

pub cell : (bus month day_type hour : ℕ) → bus_in_range bus ≡ true → time_in_range month day_type hour ≡ true → Cell bus (group_in eighteen month day_type hour)
cell bus month day_type hour b t =
    let g = eighteen-parted.numbered month day_type hour t in
    let s = on-chart bus b in
    record {
      bus-first = s.0;
      bus-last = s.1;
      group-first = g.0;
      group-last = g.1;
    }

-- 01, the chart: a differential that is answered lies from 2,388 to 32,148
pub answered-bounds : (table : Table) (bus month day_type hour : ℕ) → bus_in_range bus ≡ true → time_in_range month day_type hour ≡ true → (let x = cents_of (Ok (answer_in 1 table bus month day_type hour)) in (2388 ≤ x) × (x ≤ 32148))
unfolding answer_in
answered-bounds table bus month day_type hour b t = bounds table bus (group_in eighteen month day_type hour) (cell bus month day_type hour b t)
