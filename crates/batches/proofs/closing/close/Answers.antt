-- `close`: what the first walk saw decides the end (proofs/Ended.antt).
use mathlib.Core.Path.{◌≡◌, sym, ap, subst}
use mathlib.Core.Bool.{not}
use mathlib.Core.List.{List}
use Prim.Native.Nat.{ℕ}
use native.Mathlib.Omega.{arith}
use borrow.Author.Rules.{rules}
use lib.IntN.{ℤ, ◌+ℤ◌}
use lib.ListN.{length}
use lib.Signed.{lt_z}
use mir.Syntax.{w64}
use mir.Val.{to_z, of_z}
use Rattle.amounts.specs.Amount.{Range, Within}
use Rattle.amounts.proofs.Steps.{Known, read, kept, fits, ◌plus◌}
use Rattle.records.specs.declared.types.Record.{Record}
use Rattle.closings.proofs.Laws.{close-fits}
use Rattle.credit.specs.declared.types.Account.{Account}
use Rattle.batches.specs.Batches.{batch_cents}
use Rattle.batches.specs.Closing.{Batch, seen}
use Rattle.batches.proofs.Laws.{batch-range}
use Rattle.batches.proofs.Ended.{matched, refused, removed, moved}
use Rattle.batches.proofs.closing.close.Goals as goal

-- the numbers that the machine reads, by what the first walk saw
module _ (account : Account) (hour : ℕ) (paths : List ℕ) (prices : List ℤ) (rs : List Record) (size : length rs ≡ 256) (held-fits : Within 800000000000000 account.held) where
  held-is : to_z w64 (of_z w64 account.held) ≡ account.held
  held-is = (read held-fits tt).is

  module _ (s : Batch) (e : s ≡ seen hour paths prices rs) where
    cents-is : s.cents ≡ batch_cents hour paths prices rs
    cents-is = ap (λ (x : Batch). x.cents) e

    cents-range : Range 0 163840000000000 s.cents
    cents-range = subst (Range 0 163840000000000) (sym cents-is) (batch-range hour paths prices rs (omega (arith, size)))

    cents-back : to_z w64 (of_z w64 s.cents) ≡ s.cents
    cents-back = (read cents-range tt).is

    held_with : Known (to_z w64 (of_z w64 account.held) +ℤ to_z w64 (of_z w64 s.cents)) (account.held +ℤ s.cents) 800000000000000 963840000000000
    held_with = read held-fits tt plus read cents-range tt

    held_back : to_z w64 (of_z w64 (to_z w64 (of_z w64 account.held) +ℤ to_z w64 (of_z w64 s.cents))) ≡ account.held +ℤ s.cents
    held_back = (kept held_with tt).is

pub listed-listed-requires : goal.listed-listed-requires
listed-listed-requires c = (close-fits c.args.hour c.args.paths.now c.args.prices.now c.requires.none).paths-fit

pub invariant_of-listing : goal.invariant_of-listing
invariant_of-listing c =
    record {
      lists = c.listed-listed.ensures.places;
      prices_len = (close-fits c.args.hour c.args.paths.now c.args.prices.now c.requires.none).four;
    }

pub returns-then-not-batch-paths : goal.returns-then-not-batch-paths
returns-then-not-batch-paths c =
    let g = c.args in
    let paths = g.paths.now in
    let prices = g.prices.now in
    refused g.hour paths prices g.records c.requires.records_value_2 (close-fits g.hour paths prices c.requires.none).once c.seen-batch.result c.seen-batch.ensures g.account (ap not c.if-not-batch-paths.true) c.number.ensures (held-is g.account g.hour paths prices g.records (search rules) c.requires.within) (search rules)

pub overflow_add-held : goal.overflow_add-held
overflow_add-held c =
    let g = c.args in
    fits (held_with g.account g.hour g.paths.now g.prices.now g.records (search rules) c.requires.within c.seen-batch.result c.seen-batch.ensures) tt

pub returns-then-much : goal.returns-then-much
returns-then-much c =
    let g = c.args in
    let paths = g.paths.now in
    let prices = g.prices.now in
    let s = c.seen-batch.result in
    let e = c.seen-batch.ensures in
    let few : length g.records ≡ 256 = search rules in
    let support-is : to_z w64 (of_z w64 g.account.support) ≡ g.account.support = search rules in
    let all = matched g.hour paths prices g.records c.requires.records_value_2 (close-fits g.hour paths prices c.requires.none).once s e (ap not c.if-not-batch-paths.false) in
    removed g.account g.hour paths prices g.records all s.cents (cents-is g.account g.hour paths prices g.records few c.requires.within s e) (lt_z (to_z w64 (of_z w64 g.account.support)) (to_z w64 (of_z w64 (to_z w64 (of_z w64 g.account.held) +ℤ to_z w64 (of_z w64 s.cents))))) (λ i. lt_z (support-is i) (held_back g.account g.hour paths prices g.records few c.requires.within s e i)) c.if-much.true c.written-next.ensures (held-is g.account g.hour paths prices g.records few c.requires.within) (search rules)

pub returns : goal.returns
returns c =
    let g = c.args in
    let paths = g.paths.now in
    let prices = g.prices.now in
    let s = c.seen-batch.result in
    let e = c.seen-batch.ensures in
    let few : length g.records ≡ 256 = search rules in
    let support-is : to_z w64 (of_z w64 g.account.support) ≡ g.account.support = search rules in
    let all = matched g.hour paths prices g.records c.requires.records_value_2 (close-fits g.hour paths prices c.requires.none).once s e (ap not c.if-not-batch-paths.false) in
    moved g.account g.hour paths prices g.records all s.cents (cents-is g.account g.hour paths prices g.records few c.requires.within s e) (lt_z (to_z w64 (of_z w64 g.account.support)) (to_z w64 (of_z w64 (to_z w64 (of_z w64 g.account.held) +ℤ to_z w64 (of_z w64 s.cents))))) (λ i. lt_z (support-is i) (held_back g.account g.hour paths prices g.records few c.requires.within s e i)) c.if-much.false c.written-next.ensures support-is (cents-back g.account g.hour paths prices g.records few c.requires.within s e) (held_back g.account g.hour paths prices g.records few c.requires.within s e) (search rules)
