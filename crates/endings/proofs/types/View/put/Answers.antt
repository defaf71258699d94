-- `View::put`: the sums less one record and with another fit.
use Rattle.std.proofs.Common.{◌≡◌, true}
use mathlib.Core.Path.{◌∙◌, sym, ap, subst}
use native.Mathlib.Omega.{arith}
use Rattle.amounts.proofs.Steps.{read}
use Rattle.records.proofs.Bounds.{requirement-bounded}
use Rattle.records.specs.declared.types.Record.{Record}
use Rattle.records.specs.Records.{ok_place}
use Rattle.credit.specs.declared.types.Account.{Account}
use Rattle.credit.specs.declared.types.Sums.{Sums}
use Rattle.credit.specs.Sums.{with_record, without_record, summed}
use Rattle.credit.specs.NoOverflow.{SumsWithin}
use Rattle.credit.proofs.Parts.{sums-wider, with-within, without-within}
use Rattle.endings.specs.Endings.{put_in, accepting}
use Rattle.endings.proofs.types.View.put.Goals as goal

-- a record less, and another more
module _ (s : Sums) (was new : Record) where
  abbrev less : Sums
  less = without_record s was

  abbrev next : Sums
  next = with_record less new

  module _ (h : SumsWithin 332800000000000 s) (fine : ok_place was ≡ true) where
    less-within : SumsWithin 334100000000000 less
    less-within = without-within s h was fine

    next-within : ok_place new ≡ true → SumsWithin 335400000000000 next
    next-within = λ also. with-within less less-within new also

  -- the sums of the next book, as they were answered
  next-is : (x y : Sums) → x ≡ less → y ≡ with_record x new → y ≡ next
  next-is x y p q = q ∙ ap (λ (z : Sums). with_record z new) p

  -- what is kept of the next book
  account-is : (a b : Account) (x y : Sums) → x ≡ less → y ≡ with_record x new → b ≡ summed a y → b ≡ summed a next
  account-is a b x y p q r = r ∙ ap (summed a) (next-is x y p q)

pub with-requires-clause-sums_within : goal.with-requires-clause-sums_within
with-requires-clause-sums_within c =
    let s = c.args.self.sums in
    subst (SumsWithin 400000000000000) (sym c.without.ensures)
    (sums-wider (less s c.args.was c.args.new) (less-within s c.args.was c.args.new c.requires.sums_within c.requires.was_value) (omega arith))

pub summed-next-requires : goal.summed-next-requires
summed-next-requires c =
    let s = c.args.self.sums in
    subst (SumsWithin 400000000000000) (sym (next-is s c.args.was c.args.new c.without.result c.with.result c.without.ensures c.with.ensures))
    (sums-wider (next s c.args.was c.args.new) (next-within s c.args.was c.args.new c.requires.sums_within c.requires.was_value c.requires.value) (omega arith))

pub returns : goal.returns
unfolding put_in
returns c =
    let requirement = read (requirement-bounded c.args.new c.requires.value) tt in
    let account = account-is c.args.self.sums c.args.was c.args.new c.args.self.account c.summed-next.result c.without.result c.with.result c.without.ensures c.with.ensures c.summed-next.ensures in
    λ i. record {
      answer = (c.accepting.ensures ∙ (λ j. accepting (requirement.is j) (account j))) i;
      account = account i;
      left = c.put.ensures i;
    }
