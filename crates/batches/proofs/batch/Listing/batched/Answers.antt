-- `Listing::batched`: by whether the bid is pending, and whether the batch is too much.
use mathlib.Core.Path.{◌≡◌, sym, ◌∙◌}
use mathlib.Core.Bool.{Bool, true, false}
use mathlib.Core.List.{List}
use Prim.Native.Nat.{ℕ}
use borrow.Author.Rules.{rules}
use lib.IntN.{ℤ}
use Rattle.amounts.proofs.Steps.{gave, kept}
use Rattle.kinds.specs.Kinds.{posted_stage}
use Rattle.records.specs.declared.types.Record.{Record}
use Rattle.records.specs.Records.{advanced, is_pending}
use Rattle.batches.specs.Batches.{closed_for, batched}
use Rattle.batches.proofs.batch.Listing.batched.Goals as goal

pub returns-then-not-is_pending : goal.returns-then-not-is_pending
unfolding batched
returns-then-not-is_pending c = rw (sym c.is_pending.ensures ∙ c.if-not-is_pending.true)

pub returns-then-much : goal.returns-then-much
unfolding batched
returns-then-much c =
    rw (sym c.is_pending.ensures ∙ c.if-not-is_pending.false, c.if-much.true, c.blank.ensures)

-- as the machine reads the price and the cents
moved-is : (much : Bool) (hour : ℕ) (paths : List ℕ) (prices : List ℤ) (r : Record) {price cents : ℤ} {s : Record} → is_pending hour r ≡ true → much ≡ false → price ≡ r.price → cents ≡ closed_for paths prices r
    → s ≡ advanced r posted_stage r.schedule price cents → s ≡ batched much hour paths prices r
unfolding batched
moved-is much hour paths prices r pending few p z e = rw (pending, few) (e ∙ (λ i. advanced r posted_stage r.schedule (p i) (z i)))

pub returns : goal.returns
returns c =
    let a = c.args in
    let cents = (kept (gave c.cents.ensures) tt).is in
    let pending = sym c.is_pending.ensures ∙ c.if-not-is_pending.false in
    moved-is a.much a.self.hour a.self.paths.now a.self.prices.now a.r pending c.if-much.false (search rules) cents c.advanced.ensures
