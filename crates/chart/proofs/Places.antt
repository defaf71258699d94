-- A differential's place in the whole list of 360, and the bounds of all of them: a test computed once over the two tables.
use mathlib.Core.Path.{◌≡◌, refl, ap, ◌∙◌}
use mathlib.Core.Bool.{Bool, true, ◌&&◌}
use mathlib.Core.List.{List, [], ◌∷◌, ◌++◌}
use Prim.Native.Nat.{ℕ, zero, suc, ◌+◌, ◌-◌, ◌*◌, ◌≤◌, ◌<◌}
use native.Mathlib.Nat.{zero-add, suc-add}
use native.Mathlib.Omega.{arith}
use Rattle.std.proofs.lemmas.Bool.{and_parts}
use Rattle.std.proofs.lemmas.Bool.Decides.{nat_tests}
use borrow.Author.Tests.{eqb-true}
use lib.Dec.{leb, eqb}
use lib.ListN.{get_or, length, get_or-append}
use Rattle.chart.specs.Published.{import_table, export_table, table_of, differential_of, joined, published, start_of}
use Rattle.chart.specs.Lookup.{bus_in_range}
use Rattle.chart.specs.declared.Table.{Table}
use Rattle.chart.specs.declared.Table.TheVariants.{Import, Export}
use Rattle.chart.proofs.Ranges.{every, at}

-- a bus of the chart and a group of it
pub record Cell (bus group : ℕ) : Type 0 where
  pub bus-first : 1 ≤ bus
  pub bus-last : bus ≤ 10
  pub group-first : 1 ≤ group
  pub group-last : group ≤ 18

pub on-chart : (bus : ℕ) → bus_in_range bus ≡ true → (1 ≤ bus) × (bus ≤ 10)
on-chart bus e = grind (arith, nat_tests)

abbrev in_table : Table → ℕ → ℕ → ℕ
in_table table bus group = get_or (get_or (table_of table) bus []) group 0

-- ---- the list is the two tables, bus after bus, and a bus has eighteen numbers

after : (l m : List ℕ) (n : ℕ) → get_or (l ++ m) (length l + n) 0 ≡ get_or m n 0
after [] m n = ap (λ (k : ℕ). get_or m k 0) (zero-add n)
after (x ∷ l) m n = ap (λ (k : ℕ). get_or (x ∷ l ++ m) k 0) (suc-add (length l) n) ∙ after l m n

abbrev eighteens : List (List ℕ) → Bool
eighteens [] = true
eighteens (row ∷ rows) = eqb (length row) 18 && eighteens rows

in-joined : (rows : List (List ℕ)) → eighteens rows ≡ true → (bus group : ℕ) → bus < length rows → group < 18 → get_or (joined rows) (bus * 18 + group) 0 ≡ get_or (get_or rows bus []) group 0
in-joined [] e bus group hb hg = absurd (omega arith)
in-joined (row ∷ rows) e zero group hb hg =
    let long = eqb-true (length row) 18 (and_parts (eqb (length row) 18) (eighteens rows) e).0 in
    let place : zero * 18 + group ≡ group = omega arith in
    ap (λ (n : ℕ). get_or (row ++ joined rows) n 0) place ∙ get_or-append row (joined rows) 0 group (omega arith)
in-joined (row ∷ rows) e (suc bus) group hb hg =
    let long = eqb-true (length row) 18 (and_parts (eqb (length row) 18) (eighteens rows) e).0 in
    let place : suc bus * 18 + group ≡ length row + (bus * 18 + group) = omega arith in
    ap (λ (n : ℕ). get_or (row ++ joined rows) n 0) place
    ∙ after row (joined rows) (bus * 18 + group)
    ∙ in-joined rows (and_parts (eqb (length row) 18) (eighteens rows) e).1 bus group (omega arith) hg

pub placed : (table : Table) (bus group : ℕ) → Cell bus group → get_or published (start_of table + (bus - 1) * 18 + (group - 1)) 0 ≡ differential_of table bus group
unfolding published import_table export_table table_of differential_of
placed Import bus group c =
    let place : 0 + (bus - 1) * 18 + (group - 1) ≡ (bus - 1) * 18 + (group - 1) = omega arith in
    ap (λ (n : ℕ). get_or published n 0) place
    ∙ get_or-append (joined import_table) (joined export_table) 0 ((bus - 1) * 18 + (group - 1)) (omega arith)
    ∙ in-joined import_table refl (bus - 1) (group - 1) (omega arith) (omega arith)
placed Export bus group c =
    let place : 180 + (bus - 1) * 18 + (group - 1) ≡ 180 + ((bus - 1) * 18 + (group - 1)) = omega arith in
    ap (λ (n : ℕ). get_or published n 0) place
    ∙ after (joined import_table) (joined export_table) ((bus - 1) * 18 + (group - 1))
    ∙ in-joined export_table refl (bus - 1) (group - 1) (omega arith) (omega arith)

pub start-last : (table : Table) → start_of table ≤ 180
start-last Import = omega arith
start-last Export = omega arith

bounded : ℕ → Bool
bounded cents = leb 2388 cents && leb cents 32148

all-bounded : (table : Table) → every (λ bus. every (λ group. bounded (in_table table bus group)) 0 18) 0 10 ≡ true
unfolding import_table export_table table_of bounded
all-bounded Import = refl
all-bounded Export = refl

-- 01, the chart: "The 360 published differentials, in cents, all lie from 2,388 to 32,148"
pub bounds : (table : Table) (bus group : ℕ) → Cell bus group → (2388 ≤ differential_of table bus group) × (differential_of table bus group ≤ 32148)
unfolding differential_of bounded
bounds table bus group c =
    let cents = in_table table (bus - 1) (group - 1) in
    let of-bus = at (λ b. every (λ g. bounded (in_table table b g)) 0 18) 0 10 (all-bounded table) (bus - 1) (omega arith) (omega arith) in
    let e = at (λ g. bounded (in_table table (bus - 1) g)) 0 18 of-bus (group - 1) (omega arith) (omega arith) in
    grind (arith, nat_tests)

-- ".. and both ends occur in the import table"
pub least : differential_of Import 4 8 ≡ 2388
unfolding differential_of table_of import_table
least = refl

pub most : differential_of Import 9 3 ≡ 32148
unfolding differential_of table_of import_table
most = refl
