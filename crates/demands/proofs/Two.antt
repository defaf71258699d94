-- Demand 2: what an accepted message sets, and what is read of a book's sums.
-- Assumes nothing.
use mathlib.Core.Path.{◌≡◌, refl, sym, ap, ap₂, ◌∙◌, subst}
use mathlib.Core.Bool.{true, false}
use mathlib.Core.List.{List, [], ◌∷◌}
use mathlib.Core.Logic.{◌↔◌}
use Prim.Native.Nat.{ℕ}
use lib.Dec.{T, eqb}
use lib.IntN.{ℤ, pos, ◌+ℤ◌, ◌*ℤ◌}
use lib.Signed.{le_z, ◌≤ℤ◌, le_z_yes}
use borrow.Author.Tests.{eqb-true, eqb-false}
use Rattle.amounts.specs.Lists.{sum, total, every}
use Rattle.amounts.proofs.Signed.{tested}
use Rattle.refusals.specs.Answers.{reply}
use Rattle.refusals.specs.declared.Answer.{Answer}
use Rattle.refusals.proofs.Laws.{never, and_left, and_right}
use Rattle.records.specs.declared.types.Record.{Record}
use Rattle.records.specs.Records.{is_free, ok_place}
use Rattle.records.proofs.Places.{place-free}
use Rattle.messages.specs.declared.types.Message.{Message}
use Rattle.messages.specs.declared.types.Message.TheVariants.{Open, Revise, Withdraw, Post, Finish, Bill, Pay, Support, OpenCurves, ReviseCurves, Close, OpenSides, ReviseSides, PostSides}
use Rattle.messages.specs.declared.types.Funding.{Funding}
use Rattle.messages.specs.declared.types.Closing.{Closing}
use Rattle.credit.specs.Credit.{owes, suspended}
use Rattle.book.specs.declared.types.Book.{Book}
use Rattle.book.specs.Books.{sound, held, owed, totals, suspended_shown, no_records, empty}
use Rattle.book.specs.Step.{deed_of, done, answer_to}
use Rattle.book.proofs.Kept.{sound-places, kept-owed}
use Rattle.demands.specs.Runs.{next_book, replied}
use Rattle.demands.specs.Two.{support_set, closes, holds, Acceptance, Closure, DemandTwo}
use Rattle.demands.proofs.Answers.{unchanged}
use Rattle.demands.proofs.Accepted.{taken}
use Rattle.demands.proofs.Soundness.{empty-sound}
use Rattle.demands.proofs.Requirements.{sets, others-kept, support-sets, answers}
use Rattle.demands.proofs.Closures.{closure}

-- ---- an acceptance

module _ (b : Book) (ms : List ℕ) (ps : List ℤ) where
  -- the support is set by what is asked for
  funded : (m : Message) → (totals (done b ms ps (deed_of b m ms ps))).support ≡ support_set (totals b).support m
  unfolding deed_of done totals
  funded (Open o) = refl
  funded (Revise o) = refl
  funded (Withdraw k) = refl
  funded (Post p) = refl
  funded (Finish f) = refl
  funded (Bill x) = refl
  funded (Pay k) = refl
  funded (Support s) = refl
  funded (OpenCurves c) = refl
  funded (ReviseCurves c) = refl
  funded (Close c) = refl
  funded (OpenSides s) = refl
  funded (ReviseSides s) = refl
  funded (PostSides p) = refl

  placed : (m : Message) → (replied b m ms ps).number ≡ 0 → (s : Funding) → m ≡ Support s → (next_book b m ms ps).records ≡ b.records
  unfolding done
  placed m ok s e =
      subst (λ (x : Message). (replied b x ms ps).number ≡ 0 → (next_book b x ms ps).records ≡ b.records) (sym e)
      (λ k. ap (λ (x : Book). x.records) (support-sets b ms ps s k)) ok

  acceptance : (m : Message) → (replied b m ms ps).number ≡ 0 → Acceptance b m ms ps
  acceptance m ok =
      let k = taken b m ms ps ok in
      record {
        sets = sets b ms ps m ok;
        others = others-kept b m ms ps ok;
        support = ap (λ (x : Book). (totals x).support) k.next ∙ funded m;
        places = placed m ok;
        requirement = answers b ms ps m ok;
        held = k.held;
        owed = k.owed;
      }

  -- ---- a close, and what removes no batch

  closed_hour : (m : Message) (c : Closing) → m ≡ Close c → (replied b m ms ps).number ≡ 0 → Closure b c ms ps
  closed_hour m c e ok = closure b c ms ps (subst (λ (x : Message). (replied b x ms ps).number ≡ 0) e ok)

  -- what is asked for of one transaction, or of the support, says nothing of a batch
  answer-kept : (m : Message) → closes m ≡ false → (h o : ℤ) → (reply (answer_to b ms ps (deed_of b m ms ps) h o)).removed ≡ false
  unfolding deed_of answer_to
  answer-kept (Open o) n h w = refl
  answer-kept (Revise o) n h w = refl
  answer-kept (Withdraw k) n h w = refl
  answer-kept (Post p) n h w = refl
  answer-kept (Finish f) n h w = refl
  answer-kept (Bill x) n h w = refl
  answer-kept (Pay k) n h w = refl
  answer-kept (Support s) n h w = refl
  answer-kept (OpenCurves c) n h w = refl
  answer-kept (ReviseCurves c) n h w = refl
  answer-kept (Close c) n h w = never (sym n)
  answer-kept (OpenSides s) n h w = refl
  answer-kept (ReviseSides s) n h w = refl
  answer-kept (PostSides p) n h w = refl

  unremoved : (m : Message) → closes m ≡ false → (replied b m ms ps).removed ≡ false
  unremoved m n =
      let number = (replied b m ms ps).number in
      tested (eqb number 0)
      (λ e. ap (λ (a : Answer). (reply a).removed) (taken b m ms ps (eqb-true number 0 e)).answer ∙ answer-kept m n _ _)
      (λ e. (unchanged b m ms ps (eqb-false number 0 e)).removed)

-- ---- held, over the open transactions

nothing : (r : Record) → ok_place r ≡ true → r.requirement ≡ holds r
nothing r h = tested (is_free r) (λ e. rw e (ap (λ (x : Record). x.requirement) (place-free r h e))) (λ e. rw e)

open-total : (rs : List Record) → every ok_place rs ≡ true → total (λ r. r.requirement) rs ≡ total holds rs
unfolding sum every
open-total [] h = refl
open-total (r ∷ rs) h = ap₂ ◌+ℤ◌ (nothing r (and_left (ok_place r) (every ok_place rs) h)) (open-total rs (and_right (ok_place r) (every ok_place rs) h))

held-open : (b : Book) → sound b ≡ true → held b ≡ total holds b.records
unfolding held
held-open b h = open-total b.records (sound-places b h)

-- ---- suspension

at_least : (a c : ℤ) → (le_z a c ≡ true) ↔ (a ≤ℤ c)
at_least a c = (λ e. le_z_yes (subst T (sym e) tt), λ h. tested (le_z a c) (λ e. e) (λ e. absurd (subst T e h.le)))

suspends : (b : Book) → sound b ≡ true → (suspended (totals b) ≡ true) ↔ ((totals b).support ≤ℤ (pos 2 *ℤ owed b))
unfolding suspended totals
suspends b h =
    subst (λ (z : ℤ). (le_z b.account.support (pos 2 *ℤ z) ≡ true) ↔ (b.account.support ≤ℤ (pos 2 *ℤ owed b))) (sym (kept-owed b h))
    (at_least b.account.support (pos 2 *ℤ owed b))

shows : (b : Book) → suspended_shown b ≡ suspended (totals b)
unfolding suspended_shown suspended totals
shows b = refl

empty-owes : (totals (empty (pos 0))).support ≤ℤ (pos 2 *ℤ owed (empty (pos 0)))
unfolding totals owed owes no_records sum
empty-owes = le_z_yes tt

empty-suspended : suspended_shown (empty (pos 0)) ≡ true
empty-suspended = shows (empty (pos 0)) ∙ (suspends (empty (pos 0)) (empty-sound (pos 0) refl)).1 empty-owes

pub demand-two : (b : Book) (m : Message) (mwhs : List ℕ) (prices : List ℤ) → DemandTwo b m mwhs prices
demand-two b m ms ps =
    record {
      accepted = acceptance b ms ps m;
      closed_hour = closed_hour b ms ps m;
      unremoved = unremoved b ms ps m;
      summed = held-open b;
      suspension = suspends b;
      shown = shows b;
      emptied = empty-suspended;
    }
