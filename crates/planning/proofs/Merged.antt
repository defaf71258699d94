-- The formulas' law on two points at one price, and what a message sees of its points: the rows that they meet, and the bid that is answered.
-- Assumes nothing.
use mathlib.Core.Path.{◌≡◌, refl, sym, ap, ◌∙◌, subst, subst₂}
use mathlib.Core.Bool.{Bool, true, false, cond, not}
use mathlib.Core.List.{List, [], ◌∷◌, ◌++◌}
use Prim.Native.Nat.{ℕ, ◌≤◌}
use lib.Dec.{eqb}
use lib.IntN.{ℤ}
use lib.ListN.{length}
use Rattle.refusals.specs.Refusals.{Row, row, first, Verdict, refuse, accept, judge, answered}
use Rattle.refusals.specs.declared.Bid.{Bid}
use Rattle.refusals.specs.Answers.{bid_of}
use Rattle.bids.specs.Bids.{bid_mwh, bid_requirement}
use Rattle.bids.specs.Rows.{bid_rows}
use Rattle.bids.proofs.Merging.{merged-mwh, merged-requirement, merged-rows, merged-verdict}
use Rattle.kinds.specs.Kinds.{bid_stage}
use Rattle.keys.specs.Keys.{key_rows}
use Rattle.records.specs.declared.types.Record.{Record}
use Rattle.records.specs.Records.{is_free}
use Rattle.messages.specs.declared.types.Opening.{Opening}
use Rattle.messages.specs.declared.types.Message.{Message}
use Rattle.messages.specs.declared.types.Message.TheVariants.{Open, Revise}
use Rattle.messages.specs.declared.types.Change.{Change}
use Rattle.messages.specs.declared.types.Change.TheVariants.{Add, Rebid}
use Rattle.messages.specs.declared.types.Deed.TheVariants.{Keyed}
use Rattle.messages.specs.Plan.{opened_record, bid_for, stage_rows}
use Rattle.credit.specs.Credit.{credit_rows}
use Rattle.book.specs.declared.types.Book.{Book}
use Rattle.book.specs.Books.{lookup, sound, totals}
use Rattle.book.specs.Step.{deed_of, verdict, done, answer_to, outcome, step}
use Rattle.book.proofs.Verdicts.{parts, table-parts}
use Rattle.planning.specs.Points.{Point, point, mwhs_of, prices_of}
use Rattle.planning.specs.Merged.{Merges, Group, Sendable, Merged}

-- ---- what becomes of a change does not go by the lists that were sent

module _ (b : Book) (ms ms' : List ℕ) (ps ps' : List ℤ) (c : Change) where
  outcome-by : (n : ℕ) (t : Bool) → outcome b ms ps (cond t (accept (Keyed c)) (refuse n)) ≡ outcome b ms' ps' (cond t (accept (Keyed c)) (refuse n))
  unfolding outcome done answer_to
  outcome-by n true = refl
  outcome-by n false = refl

  outcome-same : (rows : List Row) → outcome b ms ps (judge rows (Keyed c)) ≡ outcome b ms' ps' (judge rows (Keyed c))
  unfolding judge answered
  outcome-same rows = outcome-by (first rows) (eqb (first rows) 0)

-- a message that asks for a change by its bid, and whose rows see of the lists what `bid_rows` sees: it goes by these two alone
module _ (b : Book) (o : Opening) (m : Message) (R : List Row → Bid → List Row) (c : Bid → Change)
    (rows-by : (ms : List ℕ) (ps : List ℤ) → parts b m ms ps ≡ R (bid_rows o.key.kind ms ps o.differential) (bid_for o ms ps))
    (deed-by : (ms : List ℕ) (ps : List ℤ) → deed_of b m ms ps ≡ Keyed (c (bid_for o ms ps))) where
  verdict-by : (ms : List ℕ) (ps : List ℤ) → verdict b m ms ps ≡ judge (R (bid_rows o.key.kind ms ps o.differential) (bid_for o ms ps)) (Keyed (c (bid_for o ms ps)))
  unfolding verdict
  verdict-by ms ps = λ i. judge ((table-parts b m ms ps ∙ rows-by ms ps) i) (deed-by ms ps i)

  step_same : (ms ms' : List ℕ) (ps ps' : List ℤ) → bid_rows o.key.kind ms ps o.differential ≡ bid_rows o.key.kind ms' ps' o.differential → bid_for o ms ps ≡ bid_for o ms' ps'
      → step b m ms ps ≡ step b m ms' ps'
  unfolding step
  step_same ms ms' ps ps' rows bid =
      ap (outcome b ms ps) (verdict-by ms ps ∙ (λ i. judge (R (rows i) (bid i)) (Keyed (c (bid i)))))
      ∙ outcome-same b ms ms' ps ps' (c (bid_for o ms' ps')) (R (bid_rows o.key.kind ms' ps' o.differential) (bid_for o ms' ps'))
      ∙ ap (outcome b ms' ps') (sym (verdict-by ms' ps'))

module _ (b : Book) (o : Opening) where
  abbrev old : Record
  old = lookup b o.key

  abbrev open_rows : List Row → Bid → List Row
  open_rows rows bid =
      row 1 (not (sound b)) ∷ ((key_rows o.key ++ (rows ++ (row 10 (not (is_free old)) ∷ []))) ++ credit_rows (totals b) (Keyed (Add (opened_record o bid))))

  open-same : (ms ms' : List ℕ) (ps ps' : List ℤ) → bid_rows o.key.kind ms ps o.differential ≡ bid_rows o.key.kind ms' ps' o.differential → bid_for o ms ps ≡ bid_for o ms' ps'
      → step b (Open o) ms ps ≡ step b (Open o) ms' ps'
  unfolding deed_of
  open-same ms ms' ps ps' rows bid =
      step_same b o (Open o) open_rows (λ (bid : Bid). Add (opened_record o bid)) (λ xs ys. refl) (λ xs ys. refl) ms ms' ps ps' rows bid

  abbrev revise_rows : List Row → Bid → List Row
  revise_rows rows bid =
      row 1 (not (sound b)) ∷ ((key_rows o.key ++ (rows ++ stage_rows old (eqb old.stage bid_stage))) ++ credit_rows (totals b) (Keyed (Rebid old.requirement (opened_record o bid))))

  revise-same : (ms ms' : List ℕ) (ps ps' : List ℤ) → bid_rows o.key.kind ms ps o.differential ≡ bid_rows o.key.kind ms' ps' o.differential → bid_for o ms ps ≡ bid_for o ms' ps'
      → step b (Revise o) ms ps ≡ step b (Revise o) ms' ps'
  unfolding deed_of
  revise-same ms ms' ps ps' rows bid =
      step_same b o (Revise o) revise_rows (λ (bid : Bid). Rebid old.requirement (opened_record o bid)) (λ xs ys. refl) (λ xs ys. refl) ms ms' ps ps' rows bid

module _ (o : Opening) (two one : List Point) (export : Group o two one) (m : Merges two one) where
  same-mwh : bid_mwh o.key.kind two ≡ bid_mwh o.key.kind one
  same-mwh =
      subst₂ (λ (xs ys : List Point). bid_mwh o.key.kind xs ≡ bid_mwh o.key.kind ys) (sym m.two_points) (sym m.one_point)
      (merged-mwh m.mwh m.more m.price m.before m.middle m.after m.left m.right m.others o.key.kind export)

  same-requirement : bid_requirement o.key.kind two o.differential o.exempt ≡ bid_requirement o.key.kind one o.differential o.exempt
  same-requirement =
      subst₂ (λ (xs ys : List Point). bid_requirement o.key.kind xs o.differential o.exempt ≡ bid_requirement o.key.kind ys o.differential o.exempt) (sym m.two_points) (sym m.one_point)
      (merged-requirement m.mwh m.more m.price m.before m.middle m.after m.left m.right m.others o.key.kind export o.differential o.exempt)

  module _ (few : Sendable o two one) where
    short : length (m.before ++ (point m.mwh m.price ∷ (m.middle ++ (point m.more m.price ∷ m.after)))) ≤ 64
    short = subst (λ (l : List Point). length l ≤ 64) m.two_points few

    same_rows : bid_rows o.key.kind (mwhs_of two) (prices_of two) o.differential ≡ bid_rows o.key.kind (mwhs_of one) (prices_of one) o.differential
    same_rows =
        subst₂ (λ (xs ys : List Point). bid_rows o.key.kind (mwhs_of xs) (prices_of xs) o.differential ≡ bid_rows o.key.kind (mwhs_of ys) (prices_of ys) o.differential) (sym m.two_points) (sym m.one_point)
        (merged-rows m.mwh m.more m.price m.before m.middle m.after m.left m.right m.others m.limit short o.key.kind o.differential)

    same-bid : bid_for o (mwhs_of two) (prices_of two) ≡ bid_for o (mwhs_of one) (prices_of one)
    unfolding bid_for
    same-bid =
        subst₂ (λ (xs ys : List Point). bid_for o (mwhs_of xs) (prices_of xs) ≡ bid_for o (mwhs_of ys) (prices_of ys)) (sym m.two_points) (sym m.one_point)
        (ap bid_of
        (merged-verdict m.mwh m.more m.price m.before m.middle m.after m.left m.right m.others o.key.kind export m.limit short o.differential o.exempt))

pub merged-points : (o : Opening) (two one : List Point) → Merged o two one
merged-points o two one =
    record {
      mwh = same-mwh o two one;
      requirement = same-requirement o two one;
      opened = λ g m few b. open-same b o (mwhs_of two) (mwhs_of one) (prices_of two) (prices_of one) (same_rows o two one g m few) (same-bid o two one g m few);
      revised = λ g m few b. revise-same b o (mwhs_of two) (mwhs_of one) (prices_of two) (prices_of one) (same_rows o two one g m few) (same-bid o two one g m few);
    }
