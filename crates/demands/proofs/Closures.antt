-- 02, order 3: what a close leaves under every key, what it answers, and how held moves.
-- Assumes nothing.
use mathlib.Core.Path.{◌≡◌, refl, sym, ap, ◌∙◌}
use mathlib.Core.Bool.{Bool, true, false, cond, ◌&&◌, ◌||◌}
use mathlib.Core.List.{List, [], ◌∷◌, map}
use mathlib.Core.Logic.{⊎_elim}
use mathlib.Core.Option.{none, some}
use Prim.Native.Nat.{ℕ}
use lib.Dec.{eqb}
use lib.IntN.{ℤ, pos, ◌+ℤ◌}
use lib.Signed.{lt_z}
use Rattle.amounts.specs.Limits.{is_price, is_nil}
use Rattle.amounts.specs.Lists.{every}
use Rattle.refusals.specs.Answers.{reply}
use Rattle.refusals.specs.declared.Answer.{Answer}
use Rattle.refusals.specs.declared.Answer.TheVariants.{Accepted, Removed}
use Rattle.refusals.proofs.Laws.{never, and_left, and_right}
use Rattle.kinds.specs.declared.Rules.{Rules}
use Rattle.kinds.specs.Kinds.{bid_stage, rules_of}
use Rattle.kinds.proofs.ByKind.{rules-5}
use Rattle.keys.specs.declared.Key.{Key}
use Rattle.intervals.specs.Intervals.{intervals_fit, is_none}
use Rattle.intervals.specs.declared.types.Intervals.{Intervals}
use Rattle.intervals.proofs.Laws.{none-eq, none-fits}
use Rattle.closings.specs.Closings.{place_of, quote_at}
use Rattle.closings.proofs.Laws.{close-fits, quote-fits, closed_none, closed_is}
use Rattle.records.specs.declared.types.Record.{Record}
use Rattle.records.specs.Records.{blank, is_free, at, is_pending, implies, ok_place}
use Rattle.records.proofs.Clauses.{either, clauses}
use Rattle.records.proofs.Places.{at_key, at-used, ok-place, ok-blank}
use Rattle.messages.specs.declared.types.Message.TheVariants.{Close}
use Rattle.messages.specs.declared.types.Closing.{Closing}
use Rattle.messages.specs.declared.types.Deed.TheVariants.{CloseHour}
use Rattle.batches.specs.Batches.{closed_for, brings, batch_cents, closed_record, batched}
use Rattle.batches.proofs.Laws.{pending-is, pending-ok, batched-other, batched-pending, batched-blank, batched-stays, batched-at, batched-held, batched-owed}
use Rattle.batches.proofs.Mapped.{sum_same}
use Rattle.book.specs.declared.types.Book.{Book}
use Rattle.book.specs.Places.{find, missing, or_else_blank}
use Rattle.book.specs.Books.{lookup, sound, distinct, held, owed, totals}
use Rattle.book.specs.Step.{deed_of, too_much, done, answer_to, step}
use Rattle.book.proofs.Kept.{sound-places, sound-distinct, kept-held, lookup-under}
use Rattle.demands.specs.Runs.{next_book, replied}
use Rattle.demands.specs.Two.{requirement_at, close_set, batch_of, Closure}
use Rattle.demands.proofs.Accepted.{taken}

-- ---- what is found under a key among the places of a close

module _ (much : Bool) (hour : ℕ) (paths : List ℕ) (prices : List ℤ) (k : Key) where
  abbrev becomes : Record → Record
  becomes = batched much hour paths prices

  -- where nothing was found, nothing is
  gone-by : (r : Record) (rs : List Record) (s t : Bool) → at k r ≡ s → at k (becomes r) ≡ t → missing (cond s (some r) (find (at k) rs)) ≡ true
      → (missing (find (at k) rs) ≡ true → find (at k) (map becomes rs) ≡ none) → cond t (some (becomes r)) (find (at k) (map becomes rs)) ≡ none
  unfolding missing
  gone-by r rs true t e f m ih = never m
  gone-by r rs false true e f m ih = never (sym e ∙ batched-at hour paths prices k r much f)
  gone-by r rs false false e f m ih = ih m

  gone : (rs : List Record) → missing (find (at k) rs) ≡ true → find (at k) (map becomes rs) ≡ none
  unfolding find
  gone [] m = refl
  gone (r ∷ rs) m = gone-by r rs (at k r) (at k (becomes r)) refl refl m (gone rs)

  -- an open record whose key is not found afterwards was removed
  freed-by : (r : Record) (t p : Bool) → much ≡ t → is_pending hour r ≡ p → at k r ≡ true → at k (becomes r) ≡ false → becomes r ≡ blank
  freed-by r t false m p e f = never (sym f ∙ ap (at k) (batched-other much hour paths prices r p) ∙ e)
  freed-by r true true m p e f =
      batched-pending much hour paths prices r p ∙ ap (λ (b : Bool). cond b blank (closed_record r (closed_for paths prices r))) m
  freed-by r false true m p e f =
      never (sym f ∙ ap (λ (b : Bool). at k (batched b hour paths prices r)) m ∙ batched-stays hour paths prices k r ∙ e)

  alone : (a b : Bool) → a ≡ false → (a || b) ≡ true → b ≡ true
  alone true b e h = never (sym e)
  alone false b e h = h

  found-by : (r : Record) (rs : List Record) (s t : Bool) → at k r ≡ s → at k (becomes r) ≡ t → (is_free r || missing (find (at r.key) rs)) ≡ true
      → or_else_blank blank (find (at k) (map becomes rs)) ≡ becomes (or_else_blank blank (find (at k) rs))
      → or_else_blank blank (cond t (some (becomes r)) (find (at k) (map becomes rs))) ≡ becomes (or_else_blank blank (cond s (some r) (find (at k) rs)))
  unfolding or_else_blank
  found-by r rs true true e f d ih = refl
  found-by r rs true false e f d ih =
      let later = alone (is_free r) (missing (find (at r.key) rs)) (at-used k r e) d in
      ap (or_else_blank blank) (gone rs (ap (λ (l : Key). missing (find (at l) rs)) (at_key k r e) ∙ later)) ∙ sym (freed-by r much (is_pending hour r) refl refl e f)
  found-by r rs false true e f d ih = never (sym e ∙ batched-at hour paths prices k r much f)
  found-by r rs false false e f d ih = ih

  -- what is found becomes what a close makes of it; a bid that is removed is found no more, since its key stands once
  pub found : (rs : List Record) → distinct rs ≡ true → or_else_blank blank (find (at k) (map becomes rs)) ≡ becomes (or_else_blank blank (find (at k) rs))
  unfolding find distinct or_else_blank
  found [] d = sym (batched-blank much hour paths prices)
  found (r ∷ rs) d =
      let here = is_free r || missing (find (at r.key) rs) in
      found-by r rs (at k r) (at k (becomes r)) refl refl (and_left here (distinct rs) d) (found rs (and_right here (distinct rs) d))

-- ---- the amounts, in the order's words

fit-by : (four : Bool) (s : Intervals) → four ≡ true → (four && intervals_fit s || is_none s) ≡ true → intervals_fit s ≡ true
fit-by false s e h = never e
fit-by true s e h = ⊎_elim (λ f. f) (λ z. ap intervals_fit (none-eq s z) ∙ none-fits) (either (intervals_fit s) (is_none s) h)

module _ (hour : ℕ) (paths : List ℕ) (prices : List ℤ) (fits : every is_price prices ≡ true) where
  -- a pending bid's sums are in range, and so are the prices
  requires : (r : Record) → is_pending hour r ≡ true → ok_place r ≡ true → closed_for paths prices r ≡ requirement_at paths prices r
  unfolding closed_for
  requires r p h =
      let own = rules_of r.key.kind in
      let quote = quote_at (place_of r.key.path paths) prices in
      let kept = own.intervals && intervals_fit r.intervals || is_none r.intervals in
      let all = (clauses r (pending-ok hour r p h)).quarters in
      let fit = and_left kept (implies (own.intervals && eqb r.stage bid_stage) (is_nil r.requirement)) all in
      let four = ap (λ (x : Rules). x.intervals) (rules-5 r.key.kind (pending-is hour r p).kind) in
      closed_is r.intervals quote (closed_none r.intervals quote (fit-by own.intervals r.intervals four fit) (quote-fits prices fits (place_of r.key.path paths)))

  brings-by : (r : Record) (p : Bool) → is_pending hour r ≡ p → ok_place r ≡ true → cond p (closed_for paths prices r) (pos 0) ≡ cond p (requirement_at paths prices r) (pos 0)
  brings-by r true e h = requires r e h
  brings-by r false e h = refl

  batch-is : (rs : List Record) → every ok_place rs ≡ true → batch_cents hour paths prices rs ≡ batch_of hour paths prices rs
  unfolding batch_cents
  batch-is rs h =
      sum_same ◌+ℤ◌ (pos 0) ok_place (brings hour paths prices) (λ r. cond (is_pending hour r) (requirement_at paths prices r) (pos 0))
      (λ r k. brings-by r (is_pending hour r) refl k) rs h

  set-by : (much : Bool) (r : Record) (p : Bool) → is_pending hour r ≡ p → ok_place r ≡ true
      → cond p (cond much blank (closed_record r (closed_for paths prices r))) r ≡ cond p (cond much blank (closed_record r (requirement_at paths prices r))) r
  set-by much r true e h = ap (λ (z : ℤ). cond much blank (closed_record r z)) (requires r e h)
  set-by much r false e h = refl

  set_is : (much : Bool) (r : Record) → ok_place r ≡ true → batched much hour paths prices r ≡ close_set much hour paths prices r
  unfolding batched
  set_is much r h = set-by much r (is_pending hour r) refl h

-- ---- a close that is accepted

under-ok : (b : Book) (k : Key) → sound b ≡ true → ok_place (lookup b k) ≡ true
under-ok b k h = ⊎_elim (λ e. ap ok_place e ∙ ok-blank) (λ o. ok-place (lookup b k) o.0) (lookup-under b k h)

removed-by : (t : Bool) (z h o : ℤ) → (reply (cond t (Removed h o) (Accepted z h o))).removed ≡ t
removed-by true z h o = refl
removed-by false z h o = refl

required-by : (t : Bool) (z h o : ℤ) → (reply (cond t (Removed h o) (Accepted z h o))).requirement ≡ cond t (pos 0) z
required-by true z h o = refl
required-by false z h o = refl

module _ (b : Book) (c : Closing) (paths : List ℕ) (prices : List ℤ) (ok : (replied b (Close c) paths prices).number ≡ 0) where
  abbrev next : Book
  next = next_book b (Close c) paths prices

  abbrev hour : ℕ
  hour = c.hour

  abbrev much : Bool
  much = too_much b hour paths prices

  sane : sound b ≡ true
  sane = (taken b (Close c) paths prices ok).sane

  fits : every is_price prices ≡ true
  fits = (close-fits hour paths prices (taken b (Close c) paths prices ok).planned).prices-fit

  abbrev batch : ℤ
  batch = batch_cents hour paths prices b.records

  next-is : next ≡ done b paths prices (CloseHour hour)
  unfolding deed_of
  next-is = (taken b (Close c) paths prices ok).next

  pub answer-is : (step b (Close c) paths prices).answer ≡ cond much (Removed (held next) (owed next)) (Accepted batch (held next) (owed next))
  unfolding deed_of answer_to
  answer-is = (taken b (Close c) paths prices ok).answer

  pub removed-is : (replied b (Close c) paths prices).removed ≡ much
  removed-is = ap (λ (a : Answer). (reply a).removed) answer-is ∙ removed-by much batch (held next) (owed next)

  required-is : (replied b (Close c) paths prices).requirement ≡ cond much (pos 0) batch
  required-is = ap (λ (a : Answer). (reply a).requirement) answer-is ∙ required-by much batch (held next) (owed next)

  batch-so : batch ≡ batch_of hour paths prices b.records
  batch-so = batch-is hour paths prices fits b.records (sound-places b sane)

  removes : much ≡ lt_z (totals b).support (held b +ℤ batch_of hour paths prices b.records)
  unfolding too_much totals
  removes = λ i. lt_z b.account.support (kept-held b sane i +ℤ batch-so i)

  under : (k : Key) → lookup (done b paths prices (CloseHour hour)) k ≡ close_set much hour paths prices (lookup b k)
  unfolding lookup done
  under k = found much hour paths prices k b.records (sound-distinct b sane) ∙ set_is hour paths prices fits much (lookup b k) (under-ok b k sane)

  gains : held (done b paths prices (CloseHour hour)) ≡ held b +ℤ cond much (pos 0) batch
  unfolding held done
  gains = batched-held much hour paths prices b.records (sound-places b sane)

  owed_kept : owed (done b paths prices (CloseHour hour)) ≡ owed b
  unfolding owed done
  owed_kept = batched-owed much hour paths prices b.records (sound-places b sane)

  pub closure : Closure b c paths prices
  closure =
      record {
        removes = removed-is ∙ removes;
        under = λ k. ap (λ (x : Book). lookup x k) next-is ∙ under k ∙ ap (λ (t : Bool). close_set t hour paths prices (lookup b k)) (sym removed-is);
        answers = required-is ∙ (λ i. cond (sym removed-is i) (pos 0) (batch-so i));
        gains = ap held next-is ∙ gains ∙ ap (λ (z : ℤ). held b +ℤ z) (sym required-is);
        owed_kept = ap owed next-is ∙ owed_kept;
      }
