-- `Book::rebuilt`: these places, with the totals that their sums come to.
use mathlib.Core.Path.{◌≡◌, refl, sym, ap, ◌∙◌, subst}
use mathlib.Core.Bool.{Bool, true, false, cond}
use mathlib.Core.List.{List}
use native.Mathlib.Omega.{arith}
use borrow.Author.Rules.{rules}
use lib.IntN.{ℤ}
use lib.ListN.{length}
use mir.Facts.{to_z-of_z}
use Rattle.amounts.specs.Lists.{every}
use Rattle.records.specs.declared.types.Record.{Record}
use Rattle.records.specs.Records.{ok_place}
use Rattle.credit.specs.Account.{fresh_account}
use Rattle.credit.specs.Sums.{no_sums, sums_of, held_of, summed}
use Rattle.credit.specs.NoOverflow.{SumsWithin}
use Rattle.credit.proofs.Parts.{sums-wider}
use Rattle.walk.specs.Summing.{sums_in}
use Rattle.walk.proofs.Sums.{sums-in-within}
use Rattle.book.specs.Books.{account_over, rebuilt}
use Rattle.book.proofs.Sums.{held-over}
use Rattle.book.proofs.types.Book.rebuilt.Goals as goal

-- what is kept, by the sums or by none
account-by : (support : ℤ) (rs : List Record) (t : Bool) → summed (fresh_account support) (cond t (sums_of rs) no_sums) ≡ cond t (account_over (fresh_account support) rs) (fresh_account support)
unfolding held_of
account-by support rs true = λ i. record { support = support; held = held-over rs i; owed = (sums_of rs).owed }
account-by support rs false = refl

pub summed-requires : goal.summed-requires
summed-requires c =
    let g = c in
    let rs = g.args.records in
    let few : length rs ≡ 256 = search rules in
    subst (SumsWithin 400000000000000) (sym c.sums_of.ensures) (sums-wider (sums_in rs) (sums-in-within rs (omega (arith, few))) (omega arith))

pub returns : goal.returns
unfolding rebuilt sums_in
returns c =
    let g = c in
    let rs = g.args.records in
    let fresh = c.fresh.ensures ∙ ap fresh_account (to_z-of_z g.ranges.support) in
    λ i. record { records = rs; account = (c.summed.ensures ∙ (λ j. summed (fresh j) (c.sums_of.ensures j)) ∙ account-by g.args.support rs (every ok_place rs)) i }
