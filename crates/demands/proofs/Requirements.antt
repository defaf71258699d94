-- What an accepted message leaves under its key, by document 01's formulas, and that it leaves every other record as it was. What a close leaves is proofs/Closures.antt.
-- Assumes nothing.
use mathlib.Core.Path.{◌≡◌, refl, sym, ap, ◌∙◌, subst}
use mathlib.Core.Bool.{true, false}
use mathlib.Core.List.{List}
use mathlib.Core.Logic.{⊎_elim}
use Prim.Native.Nat.{ℕ}
use lib.IntN.{ℤ}
use Rattle.refusals.specs.Refusals.{None}
use Rattle.refusals.proofs.Laws.{never}
use Rattle.kinds.specs.Kinds.{finished_stage}
use Rattle.keys.specs.declared.Key.{Key}
use Rattle.keys.specs.Keys.{same_key, key_fits}
use Rattle.records.specs.declared.types.Record.{Record}
use Rattle.records.specs.Records.{blank, pending_record, sides_record, sides_posted}
use Rattle.records.proofs.Clauses.{clauses}
use Rattle.messages.specs.declared.types.Message.{Message}
use Rattle.messages.specs.declared.types.Message.TheVariants.{Open, Revise, Withdraw, Post, Finish, Bill, Pay, Support, OpenCurves, ReviseCurves, Close, OpenSides, ReviseSides, PostSides}
use Rattle.messages.specs.declared.types.Funding.{Funding}
use Rattle.messages.specs.declared.types.Change.{Change}
use Rattle.messages.specs.declared.types.Change.TheVariants.{Add, Rebid, Advance, Remove, AddPending}
use Rattle.messages.specs.declared.types.Deed.{Deed}
use Rattle.messages.specs.declared.types.Deed.TheVariants.{Keyed, SetSupport, CloseHour}
use Rattle.messages.specs.Plan.{key_of, opened_record, posted_record, later_record, zone_key}
use Rattle.messages.proofs.Fits.{Fits}
use Rattle.messages.proofs.Formulas.{bid-is, revised-is, posted-is, finished-is, intervals-is, revised-intervals-is, sides-is, revised-sides-is, posted-sides-is}
use Rattle.credit.specs.Credit.{answered_by}
use Rattle.book.specs.declared.types.Book.{Book}
use Rattle.book.specs.Places.{or_else_blank}
use Rattle.book.specs.Books.{lookup, sound, held, owed}
use Rattle.refusals.specs.Answers.{reply}
use Rattle.refusals.specs.declared.Answer.{Answer}
use Rattle.book.specs.Step.{deed_of, done, answer_to}
use Rattle.book.proofs.Verdicts.{book_rows}
use Rattle.book.proofs.Kept.{leaves, effect, lookup-under}
use Rattle.demands.specs.Runs.{next_book, replied}
use Rattle.demands.specs.Two.{record_set, closes}
use Rattle.demands.proofs.Accepted.{taken, fitting}
use Rattle.demands.proofs.Soundness.{sound-kept}

-- the record that stands under a key after a change; blank where none does
abbrev pub left : Change → Record
left c = or_else_blank blank (leaves c)

answered-left : (c : Change) → answered_by c ≡ (left c).requirement
unfolding or_else_blank
answered-left (Add r) = refl
answered-left (Rebid was r) = refl
answered-left (Advance r) = refl
answered-left (Remove k) = refl
answered-left (AddPending r) = refl

module _ (b : Book) (m : Message) (ms : List ℕ) (ps : List ℤ) where
  here-by : (c : Change) → sound b ≡ true → Fits (lookup b (key_of m)) m (Keyed c) → None (book_rows b ms (Keyed c)) → lookup (done b ms ps (Keyed c)) (key_of m) ≡ left c
  unfolding lookup done
  here-by c s f w = ap (or_else_blank blank) (effect b m c s f w).here

  there-by : (d : Deed) → closes m ≡ false → sound b ≡ true → Fits (lookup b (key_of m)) m d → None (book_rows b ms d)
      → (l : Key) → same_key (key_of m) l ≡ false → lookup (done b ms ps d) l ≡ lookup b l
  unfolding lookup done
  there-by (Keyed c) n s f w l h = ap (or_else_blank blank) ((effect b m c s f w).there l h)
  there-by (SetSupport z) n s f w l h = refl
  there-by (CloseHour hour) n s f w l h = never (sym n ∙ ap closes f.is)

  module _ (ok : (replied b m ms ps).number ≡ 0) where
    abbrev next : Book
    next = next_book b m ms ps

    pub others-kept : closes m ≡ false → (l : Key) → same_key (key_of m) l ≡ false → lookup next l ≡ lookup b l
    others-kept n l h =
        let k = taken b m ms ps ok in
        ap (λ (x : Book). lookup x l) k.next ∙ there-by (deed_of b m ms ps) n k.sane (fitting b m ms ps k) k.weighed l h

    here : (c : Change) → deed_of b m ms ps ≡ Keyed c → lookup next (key_of m) ≡ left c
    here c e =
        let k = taken b m ms ps ok in
        ap (λ (x : Book). lookup x (key_of m)) (k.next ∙ ap (done b ms ps) e)
        ∙ here-by c k.sane (subst (Fits (lookup b (key_of m)) m) e (fitting b m ms ps k)) (subst (λ (d : Deed). None (book_rows b ms d)) e k.weighed)

    -- the requirement that is answered to what is asked for
    answered : (d : Deed) → deed_of b m ms ps ≡ d → (replied b m ms ps).requirement ≡ (reply (answer_to b ms ps d (held next) (owed next))).requirement
    answered d e =
        ap (λ (a : Answer). (reply a).requirement) (taken b m ms ps ok).answer ∙ ap (λ (x : Deed). (reply (answer_to b ms ps x (held next) (owed next))).requirement) e

    answered-here : (c : Change) → deed_of b m ms ps ≡ Keyed c → (replied b m ms ps).requirement ≡ (lookup next (key_of m)).requirement
    unfolding answer_to
    answered-here c e = answered (Keyed c) e ∙ answered-left c ∙ sym (ap (λ (r : Record). r.requirement) (here c e))

-- ---- each message, at the stage and with the requirement that 01 says

-- no record of a sound book has the key of a free place, whose kind is 0
pub unnamed : (b : Book) → sound b ≡ true → lookup b blank.key ≡ blank
unnamed b h =
    ⊎_elim (λ e. e) (λ o. never (sym (ap key_fits o.1) ∙ (clauses (lookup b blank.key) o.0).key)) (lookup-under b blank.key h)

module _ (b : Book) (ms : List ℕ) (ps : List ℤ) where
  -- support: the support is the amount given
  pub support-sets : (s : Funding) → (replied b (Support s) ms ps).number ≡ 0 → next_book b (Support s) ms ps ≡ done b ms ps (SetSupport s.cents)
  unfolding deed_of
  support-sets s ok = (taken b (Support s) ms ps ok).next

  pub sets : (m : Message) → (replied b m ms ps).number ≡ 0 → lookup (next_book b m ms ps) (key_of m) ≡ record_set (lookup b (key_of m)) m ms ps
  unfolding deed_of or_else_blank
  sets (Open o) ok =
      here b (Open o) ms ps ok _ refl ∙ ap (opened_record o) (bid-is (lookup b o.key) o ms ps (taken b (Open o) ms ps ok).planned)
  sets (Revise o) ok =
      let k = taken b (Revise o) ms ps ok in
      here b (Revise o) ms ps ok _ refl ∙ ap (opened_record o) (revised-is (lookup b o.key) o ms ps (lookup-under b o.key k.sane) k.planned)
  sets (Withdraw k) ok = here b (Withdraw k) ms ps ok _ refl
  sets (Post p) ok =
      let k = taken b (Post p) ms ps ok in
      here b (Post p) ms ps ok _ refl ∙ ap (posted_record (lookup b p.key) p) (posted-is (lookup b p.key) p ms ps (lookup-under b p.key k.sane) k.planned)
  sets (Finish f) ok =
      let k = taken b (Finish f) ms ps ok in
      here b (Finish f) ms ps ok _ refl ∙ ap (later_record (lookup b f.key) finished_stage) (finished-is (lookup b f.key) f ms ps (lookup-under b f.key k.sane) k.planned)
  sets (Bill x) ok = here b (Bill x) ms ps ok _ refl
  sets (Pay k) ok = here b (Pay k) ms ps ok _ refl
  sets (Support s) ok = unnamed (next_book b (Support s) ms ps) (sound-kept b (Support s) ms ps (taken b (Support s) ms ps ok).sane)
  sets (OpenCurves c) ok =
      here b (OpenCurves c) ms ps ok _ refl ∙ ap (pending_record c.key) (intervals-is (lookup b c.key) c ms ps (taken b (OpenCurves c) ms ps ok).planned)
  sets (ReviseCurves c) ok =
      let k = taken b (ReviseCurves c) ms ps ok in
      here b (ReviseCurves c) ms ps ok _ refl ∙ ap (pending_record c.key) (revised-intervals-is (lookup b c.key) c ms ps (lookup-under b c.key k.sane) k.planned)
  sets (OpenSides s) ok =
      let k = taken b (OpenSides s) ms ps ok in
      here b (OpenSides s) ms ps ok _ refl ∙ ap (sides_record (zone_key s.zone s.hour) s.load s.supply) (sides-is (lookup b (zone_key s.zone s.hour)) s ms ps k.planned)
  sets (ReviseSides s) ok =
      let k = taken b (ReviseSides s) ms ps ok in
      let key = zone_key s.zone s.hour in
      here b (ReviseSides s) ms ps ok _ refl ∙ ap (sides_record key s.load s.supply) (revised-sides-is (lookup b key) s ms ps (lookup-under b key k.sane) k.planned)
  sets (PostSides p) ok =
      let k = taken b (PostSides p) ms ps ok in
      let key = zone_key p.zone p.hour in
      here b (PostSides p) ms ps ok _ refl ∙ ap (sides_posted (lookup b key) p.load p.supply) (posted-sides-is (lookup b key) p ms ps (lookup-under b key k.sane) k.planned)
  sets (Close c) ok = unnamed (next_book b (Close c) ms ps) (sound-kept b (Close c) ms ps (taken b (Close c) ms ps ok).sane)

  -- what is answered stands under the key
  pub answers : (m : Message) → (replied b m ms ps).number ≡ 0 → closes m ≡ false → (replied b m ms ps).requirement ≡ (lookup (next_book b m ms ps) (key_of m)).requirement
  unfolding deed_of answer_to
  answers (Open o) ok n = answered-here b (Open o) ms ps ok _ refl
  answers (Revise o) ok n = answered-here b (Revise o) ms ps ok _ refl
  answers (Withdraw k) ok n = answered-here b (Withdraw k) ms ps ok _ refl
  answers (Post p) ok n = answered-here b (Post p) ms ps ok _ refl
  answers (Finish f) ok n = answered-here b (Finish f) ms ps ok _ refl
  answers (Bill x) ok n = answered-here b (Bill x) ms ps ok _ refl
  answers (Pay k) ok n = answered-here b (Pay k) ms ps ok _ refl
  answers (Support s) ok n = answered b (Support s) ms ps ok _ refl ∙ sym (ap (λ (r : Record). r.requirement) (sets (Support s) ok))
  answers (OpenCurves c) ok n = answered-here b (OpenCurves c) ms ps ok _ refl
  answers (ReviseCurves c) ok n = answered-here b (ReviseCurves c) ms ps ok _ refl
  answers (OpenSides s) ok n = answered-here b (OpenSides s) ms ps ok _ refl
  answers (ReviseSides s) ok n = answered-here b (ReviseSides s) ms ps ok _ refl
  answers (PostSides p) ok n = answered-here b (PostSides p) ms ps ok _ refl
  answers (Close c) ok n = never (sym n)
