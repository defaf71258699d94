-- Refusal 1 is the book's alone: no row that concerns the message, the totals or the places has its number.
-- Assumes nothing.
use mathlib.Core.Path.{◌≡◌, refl, sym, ap, ◌∙◌}
use mathlib.Core.Bool.{Bool, true, false, not, cond}
use mathlib.Core.List.{List, ◌++◌}
use Prim.Native.Nat.{ℕ}
use native.Mathlib.Omega.{arith}
use lib.IntN.{ℤ}
use Rattle.amounts.proofs.Signed.{tested}
use Rattle.refusals.specs.Refusals.{first}
use Rattle.bids.specs.Rows.{point_rows, bid_rows}
use Rattle.deliveries.specs.Rows.{delivery_rows, bill_rows}
use Rattle.keys.specs.Keys.{key_rows}
use Rattle.intervals.specs.Intervals.{curves_rows}
use Rattle.virtuals.specs.Virtuals.{side_rows, mwh_rows}
use Rattle.closings.specs.Closings.{close_rows}
use Rattle.records.specs.declared.types.Record.{Record}
use Rattle.messages.specs.declared.types.Message.{Message}
use Rattle.messages.specs.declared.types.Message.TheVariants.{Open, Revise, Withdraw, Post, Finish, Bill, Pay, Support, OpenCurves, ReviseCurves, Close, OpenSides, ReviseSides, PostSides}
use Rattle.messages.specs.declared.types.Change.TheVariants.{Add, Rebid, Advance, Remove, AddPending}
use Rattle.messages.specs.declared.types.Deed.{Deed}
use Rattle.messages.specs.declared.types.Deed.TheVariants.{Keyed, SetSupport, CloseHour}
use Rattle.messages.specs.Plan.{key_of, stage_rows, plan_rows}
use Rattle.credit.specs.declared.types.Totals.{Totals}
use Rattle.credit.specs.Credit.{credit_rows}
use Rattle.batches.specs.Batches.{batch_rows}
use Rattle.book.specs.declared.types.Book.{Book}
use Rattle.book.specs.Books.{lookup, sound, totals}
use Rattle.book.proofs.Verdicts.{book_rows, table-parts}
use Rattle.book.specs.Step.{deed_of}
use Rattle.demands.specs.Runs.{replied}
use Rattle.demands.proofs.Answers.{number_is}
use Rattle.demands.proofs.Lacking.{lacks, lacks-append, lacks-first}

plan-lacks : (old : Record) (m : Message) (ms : List ℕ) (ps : List ℤ) → lacks 1 (plan_rows old m ms ps) ≡ true
unfolding lacks key_rows stage_rows point_rows bid_rows delivery_rows bill_rows curves_rows close_rows side_rows mwh_rows
plan-lacks old (Open o) ms ps = refl
plan-lacks old (Revise o) ms ps = refl
plan-lacks old (Withdraw k) ms ps = refl
plan-lacks old (Post p) ms ps = refl
plan-lacks old (Finish f) ms ps = refl
plan-lacks old (Bill b) ms ps = refl
plan-lacks old (Pay k) ms ps = refl
plan-lacks old (Support s) ms ps = refl
plan-lacks old (OpenCurves c) ms ps = refl
plan-lacks old (ReviseCurves c) ms ps = refl
plan-lacks old (Close c) ms ps = refl
plan-lacks old (OpenSides s) ms ps = refl
plan-lacks old (ReviseSides s) ms ps = refl
plan-lacks old (PostSides p) ms ps = refl

credit-lacks : (t : Totals) (d : Deed) → lacks 1 (credit_rows t d) ≡ true
unfolding lacks
credit-lacks t (Keyed (Add r)) = refl
credit-lacks t (Keyed (Rebid was r)) = refl
credit-lacks t (Keyed (Advance r)) = refl
credit-lacks t (Keyed (Remove k)) = refl
credit-lacks t (Keyed (AddPending r)) = refl
credit-lacks t (SetSupport support) = refl
credit-lacks t (CloseHour hour) = refl

book-lacks : (b : Book) (ms : List ℕ) (d : Deed) → lacks 1 (book_rows b ms d) ≡ true
unfolding lacks batch_rows
book-lacks b ms (Keyed c) = credit-lacks (totals b) (Keyed c)
book-lacks b ms (SetSupport support) = credit-lacks (totals b) (SetSupport support)
book-lacks b ms (CloseHour hour) = refl

module _ (b : Book) (m : Message) (ms : List ℕ) (ps : List ℤ) where
  pub unsound-one : sound b ≡ false → (replied b m ms ps).number ≡ 1
  unfolding first
  unsound-one h = number_is b m ms ps ∙ ap first (table-parts b m ms ps) ∙ rw h

  -- a sound book never answers refusal 1
  pub sound-other : (replied b m ms ps).number ≡ 1 → sound b ≡ true → ⊥
  unfolding first
  sound-other h s =
      let p = plan_rows (lookup b (key_of m)) m ms ps in
      let w = book_rows b ms (deed_of b m ms ps) in
      lacks-first 1 (λ z. omega arith) (p ++ w) (lacks-append 1 p w (plan-lacks (lookup b (key_of m)) m ms ps) (book-lacks b ms (deed_of b m ms ps)))
      (sym (ap (λ (t : Bool). cond (not t) 1 (first (p ++ w))) s) ∙ sym (ap first (table-parts b m ms ps)) ∙ sym (number_is b m ms ps) ∙ h)

  pub one-unsound : (replied b m ms ps).number ≡ 1 → sound b ≡ false
  one-unsound h = tested (sound b) (λ s. absurd (sound-other h s)) (λ s. s)
