-- 02, order 3: 16 is given to no message of four curves. An open has no such row; a revision asks for requirement 0, and no bid of a sound book has less.
-- Assumes nothing.
use mathlib.Core.Path.{◌≡◌, refl, sym, ap, ◌∙◌}
use mathlib.Core.Bool.{Bool, true, false, not, cond, ◌&&◌}
use mathlib.Core.List.{List, ◌++◌}
use Prim.Native.Nat.{ℕ}
use native.Mathlib.Omega.{arith}
use lib.Dec.{eqb}
use lib.IntN.{ℤ, pos, ◌+ℤ◌, ◌-ℤ◌}
use lib.Signed.{lt_z}
use borrow.Author.Tests.{eqb-true}
use Rattle.amounts.proofs.Signed.{signed, tested}
use Rattle.refusals.specs.Refusals.{Row, first, or_else, None}
use Rattle.refusals.proofs.Laws.{never, none-applies, first-append}
use Rattle.kinds.specs.Kinds.{bid_stage}
use Rattle.keys.specs.Keys.{key_rows}
use Rattle.intervals.specs.Intervals.{curves_rows}
use Rattle.records.specs.declared.types.Record.{Record}
use Rattle.records.proofs.Clauses.{sound as keeps-clauses}
use Rattle.records.proofs.Bounds.{early-bounded}
use Rattle.messages.specs.declared.types.Curves.{Curves}
use Rattle.messages.specs.declared.types.Message.TheVariants.{OpenCurves, ReviseCurves}
use Rattle.messages.specs.Plan.{stage_rows, plan_rows}
use Rattle.messages.proofs.Passed.{revise-curves-passed}
use Rattle.messages.proofs.Fits.{plan-rows-numbered}
use Rattle.credit.specs.Credit.{suspended}
use Rattle.book.specs.declared.types.Book.{Book}
use Rattle.book.specs.Books.{lookup, sound, totals}
use Rattle.book.specs.Refusals.{table}
use Rattle.book.specs.Step.{deed_of}
use Rattle.book.proofs.Verdicts.{book_rows, table-parts}
use Rattle.book.proofs.Kept.{lookup-under}
use Rattle.demands.specs.Runs.{replied}
use Rattle.demands.specs.OrderThree.{OrderThree}
use Rattle.demands.proofs.Answers.{number_is}
use Rattle.demands.proofs.Lacking.{lacks, lacks-first}
use Rattle.demands.proofs.Unsound.{unsound-one}

module _ (b : Book) (c : Curves) (ms : List ℕ) (ps : List ℤ) where
  open-lacks : lacks 16 (table b (OpenCurves c) ms ps) ≡ true
  unfolding lacks table
  open-lacks = refl

  unchecked-open : (replied b (OpenCurves c) ms ps).number ≡ 16 → ⊥
  unchecked-open h = lacks-first 16 (λ z. omega arith) (table b (OpenCurves c) ms ps) open-lacks (sym (number_is b (OpenCurves c) ms ps) ∙ h)

  -- ---- a revision
  abbrev old : Record
  old = lookup b c.key

  abbrev upper : List Row
  upper = plan_rows old (ReviseCurves c) ms ps

  abbrev lower : List Row
  lower = book_rows b ms (deed_of b (ReviseCurves c) ms ps)

  upper-lacks : lacks 16 upper ≡ true
  unfolding lacks key_rows curves_rows stage_rows
  upper-lacks = refl

  -- a bid at stage 1 of a sound book requires no less than 0
  floored : sound b ≡ true → None upper → lt_z old.requirement (pos 0) ≡ false
  floored s n =
      let a = (revise-curves-passed old c ms ps (lookup-under b c.key s) n).1 in
      let range = early-bounded old (keeps-clauses old a.stands.clauses) (eqb-true old.stage bid_stage a.stage) in
      tested (lt_z old.requirement (pos 0)) (λ e. absurd (omega (arith, signed, range.low))) (λ e. e)

  no-sixteen : (s t u : Bool) → t ≡ false → ◌≡◌ {A = ℕ} (cond s 14 (cond (t && u) 16 0)) 16 → ⊥
  no-sixteen true t u e h = omega arith
  no-sixteen false true u e h = never (sym e)
  no-sixteen false false u e h = omega arith

  lower-lacks : lt_z old.requirement (pos 0) ≡ false → first lower ≡ 16 → ⊥
  unfolding first deed_of
  lower-lacks e h =
      no-sixteen (suspended (totals b)) (lt_z old.requirement (pos 0)) (lt_z (totals b).support ((totals b).held -ℤ old.requirement +ℤ pos 0)) e h

  passed-by : (n : ℕ) (t : Bool) → eqb n 0 ≡ t → cond t (first lower) n ≡ 16 → (n ≡ 16 → ⊥) → (n ≡ 0 → first lower ≡ 16 → ⊥) → ⊥
  passed-by n true e h above below = below (eqb-true n 0 e) h
  passed-by n false e h above below = above h

  passed : sound b ≡ true → first (upper ++ lower) ≡ 16 → ⊥
  unfolding or_else
  passed s h =
      let numbered = plan-rows-numbered old (ReviseCurves c) ms ps in
      passed-by (first upper) (eqb (first upper) 0) refl (sym (first-append upper lower numbered) ∙ h)
      (lacks-first 16 (λ z. omega arith) upper upper-lacks)
      (λ z. lower-lacks (floored s (none-applies upper numbered z)))

  unchecked-revise : (replied b (ReviseCurves c) ms ps).number ≡ 16 → ⊥
  unfolding first
  unchecked-revise h =
      tested (sound b)
      (λ s. passed s (sym (ap (λ (t : Bool). cond (not t) 1 (first (upper ++ lower))) s) ∙ sym (ap first (table-parts b (ReviseCurves c) ms ps)) ∙ sym (number_is b (ReviseCurves c) ms ps) ∙ h))
      (λ s. omega (arith, h, unsound-one b (ReviseCurves c) ms ps s))

pub order-three : (b : Book) (c : Curves) (mwhs : List ℕ) (prices : List ℤ) → OrderThree b c mwhs prices
order-three b c ms ps = record { open_unchecked = unchecked-open b c ms ps; revise_unchecked = unchecked-revise b c ms ps }
