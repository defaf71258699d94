-- A message's verdict in the parts of its table.
-- Assumes nothing.
use mathlib.Core.Path.{◌≡◌, refl, sym, ap, ◌∙◌}
use mathlib.Core.Bool.{Bool, true, false, not, cond}
use mathlib.Core.List.{List, ◌∷◌, ◌++◌}
use Prim.Native.Nat.{ℕ}
use native.Mathlib.Omega.{arith}
use lib.Dec.{eqb}
use lib.IntN.{ℤ}
use borrow.Author.Tests.{eqb-false}
use Rattle.refusals.specs.Refusals.{Row, row, first, Verdict, refuse, accept, judge, answered, or_else}
use Rattle.refusals.proofs.Laws.{first-append, answered-some}
use Rattle.messages.specs.declared.types.Message.{Message}
use Rattle.messages.specs.declared.types.Deed.{Deed}
use Rattle.messages.specs.declared.types.Deed.TheVariants.{Keyed, SetSupport, CloseHour}
use Rattle.messages.specs.declared.types.Message.TheVariants.{Open, Revise, Withdraw, Post, Finish, Bill, Pay, Support, OpenCurves, ReviseCurves, Close, OpenSides, ReviseSides, PostSides}
use Rattle.bids.specs.Rows.{point_rows, bid_rows}
use Rattle.deliveries.specs.Rows.{delivery_rows, bill_rows}
use Rattle.keys.specs.Keys.{key_rows}
use Rattle.intervals.specs.Intervals.{curves_rows}
use Rattle.closings.specs.Closings.{close_rows}
use Rattle.virtuals.specs.Virtuals.{side_rows, mwh_rows}
use Rattle.batches.specs.Batches.{batch_rows}
use Rattle.messages.specs.Plan.{key_of, stage_rows, plan_rows, plan}
use Rattle.messages.proofs.Fits.{plan-rows-numbered}
use Rattle.credit.specs.Credit.{credit_rows}
use Rattle.book.specs.Books.{Book, lookup, sound, totals}
use Rattle.book.specs.Refusals.{table}
use Rattle.book.specs.Step.{deed_of, verdict}

-- those that see more of the book than the record under a message's key: 14 to 16 the totals; a close's 11 the places (02, order 3)
abbrev pub book_rows : Book → List ℕ → Deed → List Row
book_rows b paths (Keyed c) = credit_rows (totals b) (Keyed c)
book_rows b paths (SetSupport support) = credit_rows (totals b) (SetSupport support)
book_rows b paths (CloseHour hour) = batch_rows hour paths b.records

-- the table by what its rows may see: 1 the book; 2 to 13 the message and the record under its key; then those
abbrev pub parts : Book → Message → List ℕ → List ℤ → List Row
parts b m ms ps = row 1 (not (sound b)) ∷ (plan_rows (lookup b (key_of m)) m ms ps ++ book_rows b ms (deed_of b m ms ps))

pub table-parts : (b : Book) (m : Message) (ms : List ℕ) (ps : List ℤ) → table b m ms ps ≡ parts b m ms ps
unfolding table deed_of key_rows point_rows bid_rows delivery_rows bill_rows stage_rows curves_rows close_rows batch_rows side_rows mwh_rows
table-parts b (Open o) ms ps = refl
table-parts b (Revise o) ms ps = refl
table-parts b (Withdraw k) ms ps = refl
table-parts b (Post p) ms ps = refl
table-parts b (Finish f) ms ps = refl
table-parts b (Bill x) ms ps = refl
table-parts b (Pay k) ms ps = refl
table-parts b (Support s) ms ps = refl
table-parts b (OpenCurves c) ms ps = refl
table-parts b (ReviseCurves c) ms ps = refl
table-parts b (Close c) ms ps = refl
table-parts b (OpenSides s) ms ps = refl
table-parts b (ReviseSides s) ms ps = refl
table-parts b (PostSides p) ms ps = refl

-- 2 to 13 first: the others are asked where those have passed
unfoldable pub admitted : Book → List ℕ → Verdict Deed → Verdict Deed
admitted b paths (refuse n) = refuse n
admitted b paths (accept d) = judge (book_rows b paths d) d

-- refusal 1 first; then the lower table, over the verdict of the upper
unfoldable pub concluded : Book → List ℕ → Verdict Deed → Verdict Deed
concluded b paths v = cond (sound b) (admitted b paths v) (refuse 1)

-- two tables, one below the other: the lower is asked only where the upper has passed
module _ {X : Type 0} (x : X) where
  two-by : (n m : ℕ) (b : Bool) → eqb n 0 ≡ b → (w : X → Verdict X) → w x ≡ answered m x → (p : Verdict X → Verdict X)
      → ((k : ℕ) → p (refuse k) ≡ refuse k) → ((y : X) → p (accept y) ≡ w y) → answered (cond b m n) x ≡ p (cond b (accept x) (refuse n))
  two-by n m true e w h p r a = sym (a x ∙ h)
  two-by n m false e w h p r a = answered-some n x (eqb-false n 0 e) ∙ sym (r n)

module _ (b : Book) (m : Message) (ms : List ℕ) (ps : List ℤ) where
  abbrev rows : List Row
  rows = plan_rows (lookup b (key_of m)) m ms ps

  abbrev deed : Deed
  deed = deed_of b m ms ps

  verdict-by : (s : Bool) → sound b ≡ s → answered (cond (not s) 1 (first (rows ++ book_rows b ms deed))) deed ≡ cond s (admitted b ms (plan (lookup b (key_of m)) m ms ps)) (refuse 1)
  unfolding plan judge answered deed_of admitted or_else
  verdict-by true e =
      ap (λ (n : ℕ). answered n deed) (first-append rows (book_rows b ms deed) (plan-rows-numbered (lookup b (key_of m)) m ms ps))
      ∙ two-by deed (first rows) (first (book_rows b ms deed)) (eqb (first rows) 0) refl (λ (d : Deed). judge (book_rows b ms d) d) refl (admitted b ms) (λ k. refl) (λ y. refl)
  verdict-by false e = answered-some 1 deed (λ z. omega arith)

  -- refusals 2 to 13 see the message and the record under its key; the others see the book
  pub verdict-is : verdict b m ms ps ≡ concluded b ms (plan (lookup b (key_of m)) m ms ps)
  unfolding verdict judge first concluded
  verdict-is = ap (λ (rs : List Row). judge rs deed) (table-parts b m ms ps) ∙ verdict-by (sound b) refl
