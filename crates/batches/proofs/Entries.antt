-- What an entry of the table of listed paths says of a place, and one place more of the walk.
-- Assumes nothing.
use mathlib.Core.Path.{◌≡◌, refl, sym, ap, ◌∙◌}
use mathlib.Core.Bool.{true, false, not, ◌&&◌}
use mathlib.Core.List.{List}
use mathlib.Core.Logic.{⊎_elim}
use Prim.Native.Nat.{ℕ, ◌+◌, ◌*◌, ◌-◌, ◌%◌, ◌<◌, ◌≤◌}
use native.Mathlib.Omega.{arith}
use borrow.Author.Tests.{eqb-true, eqb-false, ne_eqb}
use lib.Dec.{eqb}
use Rattle.std.specs.Prelude.{Option, Some, None, is_some, SomeIff, IfSome}
use lib.IntN.{ℤ, pos, ◌+ℤ◌, +ℤ_idr}
use lib.ListN.{length, get_or}
use Rattle.amounts.proofs.Signed.{tested}
use Rattle.distinct.specs.Numbers.{stands_in}
use Rattle.refusals.specs.Refusals.{judge, first}
use Rattle.refusals.specs.Figures.{cents_of}
use Rattle.refusals.proofs.Laws.{none-applies, answered-some}
use Rattle.keys.proofs.Laws.{key-bounds}
use Rattle.closings.specs.Closings.{place_of, quote_at, closed_rows, closed_requirement, closed_verdict}
use Rattle.closings.specs.Listing.{Lists}
use Rattle.closings.proofs.Listing.{entry_listed, entry-some}
use Rattle.closings.proofs.Laws.{closed-rows-numbered, closed_is, requirement-unlisted}
use Rattle.records.specs.declared.types.Record.{Record}
use Rattle.records.specs.Records.{is_blank, is_pending, ok_record, ok_place}
use Rattle.records.proofs.Clauses.{either, clauses}
use Rattle.records.proofs.Places.{blank-eq}
use Rattle.batches.specs.Batches.{closed_for}
use Rattle.batches.specs.Closing.{Batch, more}

pub path-low : (r : Record) → ok_place r ≡ true → r.key.path < 1024
unfolding ok_place
path-low r h =
    ⊎_elim (λ b. let e : r.key.path ≡ 0 = ap (λ (x : Record). x.key.path) (blank-eq r b) in omega arith)
    (λ o. omega (arith, (key-bounds r.key (clauses r o).key).path-high))
    (either (is_blank r) (ok_record r) h)

-- ---- an entry of the table, read at the path's place in it
module _ (paths table : List ℕ) (prices : List ℤ) (r : Record) (ok : ok_place r ≡ true) (l : Lists paths table) (four : length prices ≡ length paths * 4) where
  abbrev path : ℕ
  path = r.key.path

  abbrev entry : ℕ
  entry = get_or table (path % 1024) 0

  at_path : entry ≡ get_or table path 0
  at_path =
      let low = path-low r ok in
      let e : path % 1024 ≡ path = omega arith in
      ap (λ (n : ℕ). get_or table n 0) e

  pub listed-is : not (eqb entry 0) ≡ stands_in path paths
  listed-is = ap (λ (n : ℕ). not (eqb n 0)) at_path ∙ entry_listed paths table l path (path-low r ok)

  -- whatever the sums: the prices are 0, and a refusal answers 0
  unlisted : stands_in path paths ≡ false → closed_for paths prices r ≡ pos 0
  unfolding closed_for closed_verdict judge
  unlisted out =
      let s = r.intervals in
      let q = quote_at (place_of path paths) prices in
      let n = first (closed_rows s q) in
      tested (eqb n 0)
      (λ e. closed_is s q (none-applies (closed_rows s q) (closed-rows-numbered s q) (eqb-true n 0 e)) ∙ requirement-unlisted s path paths prices four out)
      (λ e. ap cents_of (answered-some n (closed_requirement s q) (eqb-false n 0 e)))

  pub none-cents : false ≡ stands_in path paths → pos 0 ≡ closed_for paths prices r
  none-cents out = sym (unlisted (sym out))

  pub some-cents : (place : ℕ) → place ≡ place_of path paths → cents_of (closed_verdict r.intervals (quote_at place prices)) ≡ closed_for paths prices r
  unfolding closed_for
  some-cents place is = ap (λ (n : ℕ). cents_of (closed_verdict r.intervals (quote_at n prices))) is

  pub entry-nothing : entry ≡ 0 → pos 0 ≡ closed_for paths prices r
  entry-nothing e = sym (unlisted (sym listed-is ∙ ap (λ (n : ℕ). not (eqb n 0)) e))

  pub entry-cents : (entry ≡ 0 → ⊥) → cents_of (closed_verdict r.intervals (quote_at (entry - 1) prices)) ≡ closed_for paths prices r
  unfolding closed_for
  entry-cents some =
      ap (λ (n : ℕ). cents_of (closed_verdict r.intervals (quote_at n prices)))
      (ap (λ (n : ℕ). n - 1) at_path ∙ entry-some paths table l path (path-low r ok) (λ z. some (at_path ∙ z)))

  -- an entry less 1, where it is above 0
  pub place-listed : (o : Option ℕ) → SomeIff o (1 ≤ entry) (entry - 1) → is_some o ≡ stands_in path paths
  place-listed None none = let e : entry ≡ 0 = omega (arith, none) in sym (sym listed-is ∙ ap (λ (n : ℕ). not (eqb n 0)) e)
  place-listed (Some place) some = let e = ne_eqb entry 0 (λ z. omega (arith, some.0)) in sym (sym listed-is ∙ ap not e)

  pub place-is : (o : Option ℕ) → SomeIff o (1 ≤ entry) (entry - 1) → IfSome o (λ place. place ≡ place_of path paths)
  place-is None none = tt
  place-is (Some place) some = some.1 ∙ ap (λ (n : ℕ). n - 1) at_path ∙ entry-some paths table l path (path-low r ok) (λ z. omega (arith, some.0, at_path))

-- ---- one place more
module _ (hour : ℕ) (paths : List ℕ) (prices : List ℤ) (s : Batch) (r : Record) where
  pub more-none : is_pending hour r ≡ false → s ≡ more hour paths prices s r
  unfolding more
  more-none e = rw e (λ i. record { count = s.count; listed = s.listed; cents = sym (+ℤ_idr s.cents) i })

  pub more-pending : is_pending hour r ≡ true
      → record { count = s.count + 1; listed = stands_in r.key.path paths && s.listed; cents = s.cents +ℤ closed_for paths prices r } ≡ more hour paths prices s r
  unfolding more
  more-pending e = rw e refl
