-- An open puts its record in the lowest free place, which is zero throughout; its withdraw finds that record by its key, and frees the place. A sound book keeps the totals of its places, so the same places have the same totals.
-- Assumes nothing.
use mathlib.Core.Path.{◌≡◌, refl, sym, ap, ◌∙◌, subst}
use mathlib.Core.Bool.{true, false, not}
use mathlib.Core.List.{List}
use mathlib.Core.Option.{none, some}
use Prim.Native.Nat.{ℕ}
use lib.Dec.{eqb}
use lib.IntN.{ℤ, pos}
use borrow.Author.Tests.{eq-eqb}
use Rattle.refusals.specs.Refusals.{None}
use Rattle.refusals.specs.declared.Answer.TheVariants.{Accepted}
use Rattle.refusals.proofs.Laws.{never, none-split, none-join}
use Rattle.kinds.specs.Kinds.{bid_stage}
use Rattle.keys.specs.declared.Key.{Key}
use Rattle.keys.specs.Keys.{key_rows}
use Rattle.records.specs.declared.types.Record.{Record}
use Rattle.records.specs.Records.{blank, is_free, at}
use Rattle.records.proofs.Places.{at_own, place-free}
use Rattle.messages.specs.declared.types.Message.{Message}
use Rattle.messages.specs.declared.types.Message.TheVariants.{Open, Revise, Withdraw, Post, Finish, Bill, Pay, Support, OpenCurves, ReviseCurves, Close, OpenSides, ReviseSides, PostSides}
use Rattle.messages.specs.Plan.{key_of, opens, stage_rows, plan_rows}
use Rattle.messages.proofs.Fits.{Fits, Added}
use Rattle.credit.specs.declared.types.Account.{Account}
use Rattle.book.specs.declared.types.Book.{Book}
use Rattle.book.specs.Places.{find, swap, missing, or_else_blank}
use Rattle.book.specs.Books.{lookup, sound, held, owed, full, totals}
use Rattle.book.specs.Step.{deed_of, change, rebook, done, answer_to, step}
use Rattle.book.proofs.Verdicts.{book_rows}
use Rattle.book.proofs.Places.{find-passes, every-find}
use Rattle.book.proofs.Effect.{missing-some, effect-add}
use Rattle.book.proofs.Kept.{sound-places, sound-distinct, kept-held, kept-owed, lookup-none}
use Rattle.demands.specs.Runs.{next_book}
use Rattle.demands.proofs.Accepted.{Taken, taken, fitting}
use Rattle.demands.proofs.Soundness.{sound-kept}
use Rattle.demands.proofs.Deal.{takes}
use Rattle.planning.specs.TakenBack.{Opened, TakenBack}
use Rattle.planning.proofs.Places.{swap-back}

module _ (b : Book) (m : Message) (ms : List ℕ) (ps : List ℤ) where
  -- what each message that opens has in common: its key is asked first, and a record goes to the lowest free place
  record Begun : Type 0 where
    new : Record
    key : None (plan_rows (lookup b (key_of m)) m ms ps) → None (key_rows (key_of m))
    added : Fits (lookup b (key_of m)) m (deed_of b m ms ps) → Added (lookup b (key_of m)) m new
    room : None (book_rows b ms (deed_of b m ms ps)) → missing (find is_free b.records) ≡ false
    does : done b ms ps (deed_of b m ms ps) ≡ rebook b b.account (swap is_free new b.records)

begun : (b : Book) (m : Message) (ms : List ℕ) (ps : List ℤ) → opens m ≡ true → Begun b m ms ps
unfolding deed_of None totals full done change
begun b (Open o) ms ps h =
    record { new = _; key = λ n. (none-split (key_rows o.key) _ n).0; added = λ f. f; room = λ n. n.1.0; does = refl }
begun b (Revise o) ms ps h = never h
begun b (Withdraw k) ms ps h = never h
begun b (Post p) ms ps h = never h
begun b (Finish f) ms ps h = never h
begun b (Bill x) ms ps h = never h
begun b (Pay k) ms ps h = never h
begun b (Support s) ms ps h = never h
begun b (OpenCurves c) ms ps h =
    record { new = _; key = λ n. (none-split (key_rows c.key) _ n).0; added = λ f. f.added; room = λ n. n.1.0; does = refl }
begun b (ReviseCurves c) ms ps h = never h
begun b (Close c) ms ps h = never h
begun b (OpenSides s) ms ps h =
    record { new = _; key = λ n. (none-split (key_rows (key_of (OpenSides s))) _ n).0; added = λ f. f; room = λ n. n.1.0; does = refl }
begun b (ReviseSides s) ms ps h = never h
begun b (PostSides p) ms ps h = never h

-- a book that keeps the totals of its places follows from its places and its support
kept : (b : Book) (a : Account) → sound b ≡ true → a.support ≡ b.account.support → rebook b a b.records ≡ b
unfolding held owed
kept b a s e =
    λ i. record { records = b.records; account = record { support = e i; held = sym (kept-held b s) i; owed = sym (kept-owed b s) i } }

module _ (b : Book) (m : Message) (ms : List ℕ) (ps : List ℤ) (h : Opened b m ms ps) where
  abbrev k : Key
  k = key_of m

  t : Taken b m ms ps
  t = taken b m ms ps h.accepted

  is : Begun b m ms ps
  is = begun b m ms ps h.begins

  abbrev new : Record
  new = is.new

  fits : Added (lookup b k) m new
  fits = is.added (fitting b m ms ps t)

  room : missing (find is_free b.records) ≡ false
  room = is.room t.weighed

  absent : find (at k) b.records ≡ none
  absent = lookup-none b k fits.free

  abbrev next : Book
  next = rebook b b.account (swap is_free new b.records)

  next-is : next_book b m ms ps ≡ next
  next-is = t.next ∙ is.does

  next-sound : sound next ≡ true
  next-sound = subst (λ (x : Book). sound x ≡ true) next-is (sound-kept b m ms ps t.sane)

  found : lookup next k ≡ new
  unfolding lookup or_else_blank
  found = ap (or_else_blank blank) (effect-add k b.records (sound-places b t.sane) (sound-distinct b t.sane) new absent room fits.fine).here

  -- ---- the withdraw
  module _ (ms' : List ℕ) (ps' : List ℤ) where
    planned : None (plan_rows (lookup next k) (Withdraw k) ms' ps')
    unfolding None stage_rows
    planned =
        none-join (key_rows k) (stage_rows (lookup next k) (eqb (lookup next k).stage bid_stage)) (is.key t.planned)
        (ap is_free found ∙ fits.fine.used, (ap not (eq-eqb (lookup next k).stage bid_stage (ap (λ (r : Record). r.stage) found ∙ fits.bid)), tt))

    weighed : None (book_rows next ms' (deed_of next (Withdraw k) ms' ps'))
    unfolding None deed_of
    weighed = tt

    after : Taken next (Withdraw k) ms' ps'
    after = taken next (Withdraw k) ms' ps' (takes next (Withdraw k) ms' ps' next-sound planned weighed)

    -- the free place was zero throughout
    places : swap (at k) blank (swap is_free new b.records) ≡ b.records
    places =
        let x = missing-some (find is_free b.records) room in
        let was : x.0 ≡ blank = place-free x.0 (every-find is_free _ x.0 b.records (sound-places b t.sane) x.1) (find-passes is_free x.0 b.records x.1) in
        swap-back is_free (at k) new blank b.records (x.1 ∙ ap some was) absent (at_own k new fits.fine.own fits.fine.used)

    back : (step next (Withdraw k) ms' ps').book ≡ b
    unfolding deed_of done change
    back = after.next ∙ ap (λ (xs : List Record). rebook next next.account xs) places ∙ kept b next.account t.sane refl

    answer : (step next (Withdraw k) ms' ps').answer ≡ Accepted (pos 0) (held b) (owed b)
    unfolding deed_of answer_to
    answer = after.answer ∙ ap (λ (x : Book). Accepted (pos 0) (held x) (owed x)) back

pub taken_back : (b : Book) (m : Message) (mwhs : List ℕ) (prices : List ℤ) → TakenBack b m mwhs prices
taken_back b m mwhs prices =
    record {
      accepted = λ h ms ps. ap (λ (x : Book). (step x (Withdraw (key_of m)) ms ps).answer) (next-is b m mwhs prices h) ∙ answer b m mwhs prices h ms ps;
      starting = λ h ms ps. ap (λ (x : Book). (step x (Withdraw (key_of m)) ms ps).book) (next-is b m mwhs prices h) ∙ back b m mwhs prices h ms ps;
    }
