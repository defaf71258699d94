-- `Batch::with`: a place that has no pending bid brings nothing.
use mathlib.Core.Path.{sym, ◌∙◌}
use mathlib.Core.Bool.{◌&&◌}
use Prim.Native.Nat.{◌+◌}
use lib.IntN.{◌+ℤ◌}
use mir.Syntax.{w64}
use mir.Val.{to_z, of_z}
use Rattle.amounts.proofs.Steps.{Known, read, gave, kept, ◌plus◌}
use Rattle.batches.specs.Batches.{closed_for}
use Rattle.batches.proofs.Entries.{more-none, more-pending}
use Rattle.batches.proofs.types.Batch.with.Goals as goal

pub returns-then-not-is_pending : goal.returns-then-not-is_pending
returns-then-not-is_pending c =
    let a = c.args in
    more-none a.listing.hour a.listing.paths.now a.listing.prices.now a.self a.r (sym c.is_pending.ensures ∙ c.if-not-is_pending.true)

pub returns : goal.returns
returns c =
    let a = c.args in
    let sum : Known (to_z w64 (of_z w64 a.self.cents) +ℤ to_z w64 (of_z w64 c.cents.result)) (a.self.cents +ℤ closed_for a.listing.paths.now a.listing.prices.now a.r) 0 163840000000000 =
    read c.requires.light.cents tt plus kept (gave c.cents.ensures) tt in
    let listed = c.is_some.ensures ∙ c.place.ensures.listed in
    (λ i. record { count = a.self.count + 1; listed = listed i && a.self.listed; cents = (kept sum tt).is i })
    ∙ more-pending a.listing.hour a.listing.paths.now a.listing.prices.now a.self a.r
    (sym c.is_pending.ensures ∙ c.if-not-is_pending.false)
