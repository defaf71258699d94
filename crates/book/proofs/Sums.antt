-- Held by its two parts.
-- Assumes nothing.
use mathlib.Core.Path.{◌≡◌, refl, sym}
use mathlib.Core.List.{List, [], ◌∷◌}
use native.Mathlib.Omega.{arith}
use lib.IntN.{ℤ, ◌+ℤ◌}
use Rattle.amounts.specs.Lists.{sum, total}
use Rattle.amounts.proofs.Signed.{signed, sum_of}
use Rattle.records.specs.declared.types.Record.{Record}
use Rattle.credit.specs.Credit.{owes}
use Rattle.credit.specs.Sums.{unbilled_of, held_of}
use Rattle.credit.proofs.Parts.{parts}
use Rattle.book.specs.Books.{Book, held, owed, held_over}

total-parts : (rs : List Record) → total (λ r. r.requirement) rs ≡ total unbilled_of rs +ℤ total owes rs
unfolding sum
total-parts [] = refl
total-parts (r ∷ rs) =
    let ih = total-parts rs in
    omega (arith, signed, parts r, sum_of (unbilled_of r) (owes r), sum_of (total unbilled_of rs) (total owes rs), sum_of r.requirement (total (λ x. x.requirement) rs), sum_of (unbilled_of r) (total unbilled_of rs), sum_of (owes r) (total owes rs), sum_of (unbilled_of r +ℤ total unbilled_of rs) (owes r +ℤ total owes rs))

-- over any places
pub held-over : (rs : List Record) → held_of (total unbilled_of rs) (total owes rs) ≡ held_over rs
unfolding held_of
held-over rs = sym (total-parts rs)

unfoldable pub unbilled : Book → ℤ
unbilled b = total unbilled_of b.records

-- held is the unbilled and the owed together; nothing else opens `held`
pub held-is : (b : Book) → held b ≡ held_of (unbilled b) (owed b)
unfolding held owed unbilled held_of
held-is b = total-parts b.records

pub held_by : (b : Book) → held_of (total unbilled_of b.records) (total owes b.records) ≡ held b
unfolding unbilled owed
held_by b = sym (held-is b)
