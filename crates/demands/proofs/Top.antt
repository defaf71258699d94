-- At the top support nothing is too much: what is owed is below half of it, and held with one requirement more, or with a batch, is below it.
-- Assumes nothing.
use mathlib.Core.Path.{◌≡◌, sym, ap, subst}
use mathlib.Core.Bool.{true, false}
use mathlib.Core.List.{List}
use Prim.Native.Nat.{ℕ}
use native.Mathlib.Omega.{arith}
use lib.IntN.{ℤ, pos, ◌+ℤ◌, ◌-ℤ◌, ◌*ℤ◌}
use lib.ListN.{length}
use lib.Signed.{lt_z, le_z}
use Rattle.amounts.specs.Amount.{up, down, Range, Within}
use Rattle.amounts.proofs.Signed.{signed, tested, sum_of, difference-of, times-of}
use Rattle.refusals.proofs.Laws.{and-false}
use Rattle.refusals.specs.Refusals.{None}
use Rattle.records.specs.declared.types.Record.{Record}
use Rattle.records.specs.Records.{at, ok_place}
use Rattle.records.proofs.Places.{ok-place}
use Rattle.records.proofs.Bounds.{requirement-bounded}
use Rattle.messages.specs.declared.types.Message.{Message}
use Rattle.messages.specs.declared.types.Change.TheVariants.{Add, Rebid, Advance, Remove, AddPending}
use Rattle.messages.specs.declared.types.Deed.{Deed}
use Rattle.messages.specs.declared.types.Deed.TheVariants.{Keyed, SetSupport, CloseHour}
use Rattle.messages.specs.Plan.{key_of, opens}
use Rattle.messages.proofs.Fits.{Fine, Fits}
use Rattle.credit.specs.NoOverflow.{TotalsBounded}
use Rattle.credit.specs.declared.types.Totals.{Totals}
use Rattle.credit.specs.Credit.{suspended, credit_rows}
use Rattle.batches.specs.Batches.{batch_cents}
use Rattle.batches.proofs.Laws.{batch-range}
use Rattle.book.specs.declared.types.Book.{Book}
use Rattle.book.specs.Books.{lookup, sound, full, totals}
use Rattle.book.specs.Step.{too_much}
use Rattle.book.proofs.Places.{every-find}
use Rattle.book.proofs.Kept.{sound-places, lookup-some}
use Rattle.book.proofs.Written.{totals-small}
use Rattle.demands.specs.Three.{top_support}

module _ (t : Totals) (top : t.support ≡ pos top_support) (small : TotalsBounded t) where
  not-suspended : suspended t ≡ false
  unfolding suspended
  not-suspended =
      tested (le_z t.support (pos 2 *ℤ t.owed)) (λ e. absurd (omega (arith, signed, ap up top, ap down top, times-of 2 t.owed, small.owed)))
      (λ e. e)

  not-above : (z : ℤ) → Within 990_000_000_000_000 z → lt_z t.support z ≡ false
  not-above z h = tested (lt_z t.support z) (λ e. absurd (omega (arith, signed, ap up top, ap down top))) (λ e. e)

  added-within : (z : ℤ) → Within 1300000000000 z → Within 990_000_000_000_000 (t.held +ℤ z)
  added-within z h = omega (arith, sum_of t.held z, small.held)

  redone-within : (was z : ℤ) → Within 1300000000000 was → Within 1300000000000 z → Within 990_000_000_000_000 (t.held -ℤ was +ℤ z)
  redone-within was z k h = omega (arith, sum_of (t.held -ℤ was) z, difference-of t.held was, small.held)

  -- 256 bids of 640,000,000,000 at most
  batch-within : (z : ℤ) → Range 0 163840000000000 z → Within 990_000_000_000_000 (t.held +ℤ z)
  batch-within z h = omega (arith, sum_of t.held z, small.held, h.low, h.high)

fine-within : (m : Message) (r : Record) → Fine (key_of m) r → Within 1300000000000 r.requirement
fine-within m r f = requirement-bounded r (ok-place r f.ok)

module _ (b : Book) (m : Message) (sane : sound b ≡ true) (size : length b.records ≡ 256) (top : (totals b).support ≡ pos top_support) where
  -- refusals 14 to 16 do not apply, where an open finds a free place
  pub weighed-top : (d : Deed) → Fits (lookup b (key_of m)) m d → (opens m ≡ true → full b ≡ false) → None (credit_rows (totals b) d)
  unfolding None totals
  weighed-top (Keyed (Add r)) f room =
      let t = totals b in
      let small = totals-small b sane size in (
        not-suspended t top small,
        (room f.begins, (not-above t top small (t.held +ℤ r.requirement) (added-within t top small r.requirement (fine-within m r f.fine)), tt)),
      )
  weighed-top (Keyed (Rebid was r)) f room =
      let t = totals b in
      let small = totals-small b sane size in
      let old = lookup b (key_of m) in
      let standing = every-find (at (key_of m)) ok_place old b.records (sound-places b sane) (lookup-some b (key_of m) f.used) in
      let was-within = subst (Within 1300000000000) (sym f.was) (requirement-bounded old standing) in
      let after = t.held -ℤ was +ℤ r.requirement in (
        not-suspended t top small,
        (
          and-false (lt_z was r.requirement) (lt_z t.support after)
              (not-above t top small after (redone-within t top small was r.requirement was-within (fine-within m r f.fine))),
          tt,
        ),
      )
  weighed-top (Keyed (Advance r)) f room = tt
  weighed-top (Keyed (Remove k)) f room = tt
  weighed-top (Keyed (AddPending r)) f room = (not-suspended (totals b) top (totals-small b sane size), (room f.added.begins, tt))
  weighed-top (SetSupport z) f room = tt
  weighed-top (CloseHour hour) f room = tt

-- 02, order 3: no batch is removed
pub kept_top : (b : Book) → sound b ≡ true → length b.records ≡ 256 → (totals b).support ≡ pos top_support → (hour : ℕ) (paths : List ℕ) (prices : List ℤ) → too_much b hour paths prices ≡ false
unfolding totals too_much
kept_top b sane size top hour paths prices =
    let t = totals b in
    let small = totals-small b sane size in
    let cents = batch_cents hour paths prices b.records in
    not-above t top small (t.held +ℤ cents) (batch-within t top small cents (batch-range hour paths prices b.records (omega (arith, size))))
