-- How a message ends, written to its book, is the message's step: refusal 1, the plan's refusal, 14 to 16, or the next book with its sums. Or it leaves an hour's batch to the places (02, order 3).
-- Assumes nothing.
use mathlib.Core.Path.{◌≡◌, refl, sym, ap, ◌∙◌, subst}
use mathlib.Core.Bool.{Bool, true, false, cond}
use mathlib.Core.List.{List}
use mathlib.Core.Logic.{⊎_elim}
use Prim.Native.Nat.{ℕ, ◌<◌}
use native.Mathlib.Omega.{arith}
use lib.IntN.{ℤ, pos, ◌+ℤ◌, ◌-ℤ◌}
use lib.ListN.{length, set}
use Rattle.amounts.specs.Lists.{total}
use Rattle.amounts.specs.Amount.{Within}
use Rattle.amounts.proofs.Signed.{signed, sum_of, difference-of}
use Rattle.refusals.specs.Refusals.{verdict_of, None, first, Verdict, refuse, accept, answered, judge}
use Rattle.refusals.proofs.Laws.{judge-accept}
use Rattle.messages.specs.declared.types.Message.{Message}
use Rattle.messages.specs.declared.types.Change.{Change}
use Rattle.messages.specs.declared.types.Change.TheVariants.{Add, Rebid, Advance, Remove, AddPending}
use Rattle.messages.specs.declared.types.Deed.{Deed}
use Rattle.messages.specs.declared.types.Deed.TheVariants.{Keyed, SetSupport, CloseHour}
use Rattle.std.specs.Prelude.{Result, Ok, Err, Option, Some, None as Without, is_none}
use Rattle.refusals.specs.declared.Refusal.{Refusal}
use Rattle.keys.specs.declared.Key.{Key}
use Rattle.records.specs.declared.types.Record.{Record}
use Rattle.records.specs.Records.{blank, is_free, at, ok_place}
use Rattle.records.proofs.Places.{ok-place, ok-blank}
use Rattle.records.proofs.Bounds.{requirement-bounded}
use Rattle.messages.specs.Plan.{key_of, deed_for, plan_rows, plan}
use Rattle.messages.proofs.Fits.{Fits, fits, plan-rows-numbered}
use Rattle.closings.specs.Closings.{close_rows}
use Rattle.batches.specs.Batches.{batch_rows}
use Rattle.credit.specs.declared.types.Account.{Account}
use Rattle.credit.specs.declared.types.Sums.{Sums}
use Rattle.credit.specs.Account.{totalled}
use Rattle.credit.specs.Credit.{owes, credit_rows, answered_by}
use Rattle.credit.specs.Sums.{unbilled_of, sums_of, with_record, without_record, held_of}
use Rattle.credit.specs.NoOverflow.{SumsWithin, TotalsBounded}
use Rattle.credit.proofs.Parts.{owes-blank, unbilled-blank, totals-bounded}
use Rattle.credit.proofs.Rows.{credit-rows-numbered}
use Rattle.book.specs.Places.{swap}
use Rattle.book.specs.Books.{Book, lookup, sound, held, owed, held_over, full, totals, held_answered, owed_answered}
use Rattle.refusals.specs.declared.Answer.TheVariants.{Accepted, Refused}
use Rattle.book.specs.Step.{Outcome, change, rebook, done, answer_to, outcome, step}
use Rattle.endings.specs.declared.types.View.{View}
use Rattle.endings.specs.declared.types.Ending.{Ending}
use Rattle.endings.specs.declared.types.Left.{Left}
use Rattle.endings.specs.declared.types.Left.TheVariants.{Nothing, Put, Batch}
use Rattle.endings.specs.Endings.{DeedSound, PlanSound, Summable, totals_of, credit_verdict, pass, unsound, turned_away, put_at, put_in, carried_out, ending_of, ended}
use Rattle.book.proofs.Passed.{position, Inside, stored, swap-stored, missing-position, inside}
use Rattle.walk.proofs.Sums.{sums-within}
use Rattle.book.proofs.Sums.{held_by}
use Rattle.book.proofs.Effect.{weight}
use Rattle.book.proofs.Kept.{sound-places, kept-held, kept-owed, lookup-under, lookup-none, lookup-some, effect}
use Rattle.book.proofs.Verdicts.{book_rows, admitted, concluded, verdict-is}

-- a sound book's sums are those of 256 requirements in range
sound-within : (b : Book) → sound b ≡ true → length b.records ≡ 256 → SumsWithin 332800000000000 (sums_of b.records)
sound-within b h e = sums-within b.records (sound-places b h) (omega (arith, e))

-- and its totals are made of them
pub totals-small : (b : Book) → sound b ≡ true → length b.records ≡ 256 → TotalsBounded (totals b)
unfolding totals owed
totals-small b h e =
    subst (λ (t : Account). TotalsBounded (record { support = t.support; held = t.held; owed = t.owed; full = full b }))
    (λ i. record { support = b.account.support; held = (held_by b ∙ sym (kept-held b h)) i; owed = sym (kept-owed b h) i })
    (totals-bounded b.account.support (full b) (sums_of b.records) (sound-within b h e))

-- what a message sees of a book whose places are in range
pub record Sees (b : Book) (k : Key) (s : View) : Type 0 where
  pub sums : s.sums ≡ sums_of b.records
  pub lowest : s.free ≡ position is_free b.records
  pub place : s.at ≡ position (at k) b.records
  pub under : s.old ≡ lookup b k

-- the places, once what is left to them is written; a batch is not written here
abbrev pub placed : List Record → Left → List Record
placed rs Nothing = rs
placed rs (Put place new) = set rs place new
placed rs (Batch hour) = rs

-- the book after an ending, and the answer
abbrev pub written : Book → Ending → Outcome
written b e = record { book = record { records = placed b.records e.left; account = e.account }; answer = e.answer }

-- of the hour whose batch is left, if one is
abbrev pub OfBatch : (ℕ → Type 0) → Left → Type 0
OfBatch P Nothing = Unit {0}
OfBatch P (Put place new) = Unit {0}
OfBatch P (Batch hour) = P hour

abbrev pub NoBatch : Left → Type 0
NoBatch l = OfBatch (λ (hour : ℕ). ⊥) l

batch-too : (P Q : ℕ → Type 0) → ((hour : ℕ) → P hour → Q hour) → (l : Left) → OfBatch P l → OfBatch Q l
batch-too P Q f Nothing q = tt
batch-too P Q f (Put place new) q = tt
batch-too P Q f (Batch hour) q = f hour q

-- a record is written at one of the places
abbrev pub Fitting : Left → Type 0
Fitting Nothing = Unit {0}
Fitting (Put place new) = place < 256
Fitting (Batch hour) = Unit {0}

-- where a record is written, if it is
module _ (new : Record) where
  placed-put : (rs : List Record) (o : Option ℕ) → placed rs (put_at o new) ≡ stored rs o new
  placed-put rs Without = refl
  placed-put rs (Some place) = refl

  put-unbatched : (P : ℕ → Type 0) (o : Option ℕ) → OfBatch P (put_at o new)
  put-unbatched P Without = tt
  put-unbatched P (Some place) = tt

  put-fitting : (o : Option ℕ) → Inside 256 o → Fitting (put_at o new)
  put-fitting Without h = tt
  put-fitting (Some place) h = h

moved-over : (x y a c : ℤ) → y +ℤ a ≡ x +ℤ c → (x -ℤ a) +ℤ c ≡ y
moved-over x y a c e = omega (arith, signed, sum_of (x -ℤ a) c, difference-of x a, sum_of y a, sum_of x c)

-- a book that is not sound is given back, whatever the message
pub unsound-step : (b : Book) (m : Message) (ms : List ℕ) (ps : List ℤ) → sound b ≡ false → step b m ms ps ≡ record { book = b; answer = Refused 1 (pos 0) (pos 0) }
unfolding step outcome concluded held_answered owed_answered
unsound-step b m ms ps h = ap (outcome b ms ps) (verdict-is b m ms ps) ∙ rw h (rw h refl)

-- a batch is left by a sound book, whose step is then what the places say
pub record HandedOn (b : Book) (m : Message) (ms : List ℕ) (ps : List ℤ) (hour : ℕ) : Type 0 where
  pub sane : sound b ≡ true
  pub passed : None (close_rows hour ms ps)
  pub goes : step b m ms ps ≡ outcome b ms ps (judge (batch_rows hour ms b.records) (CloseHour hour))

module _ (b : Book) (m : Message) (ms : List ℕ) (ps : List ℤ) (s : View) (few : length b.records ≡ 256) (account-so : s.account ≡ b.account)
    (sound-so : s.sound ≡ sound b) (walk : Sees b (key_of m) s)
    (p : Result Deed Refusal) (planned-so : verdict_of p ≡ plan (lookup b (key_of m)) m ms ps) where
  abbrev rs : List Record
  rs = b.records

  abbrev old : Record
  old = lookup b (key_of m)

  -- a place that a search found is one of the places
  found-inside : (q : Record → Bool) (o : Option ℕ) → o ≡ position q rs → Inside 256 o
  found-inside q o e = subst (λ (n : ℕ). Inside n o) few (subst (Inside (length rs)) (sym e) (inside q rs))

  fitting-carried : (d : Deed) → Fitting (carried_out s d).left
  unfolding put_in
  fitting-carried (Keyed (Add r)) = put-fitting r s.free (found-inside is_free s.free walk.lowest)
  fitting-carried (Keyed (Rebid was r)) = put-fitting r s.at (found-inside (at (key_of m)) s.at walk.place)
  fitting-carried (Keyed (Advance r)) = put-fitting r s.at (found-inside (at (key_of m)) s.at walk.place)
  fitting-carried (Keyed (Remove k)) = put-fitting blank s.at (found-inside (at (key_of m)) s.at walk.place)
  fitting-carried (Keyed (AddPending r)) = put-fitting r s.free (found-inside is_free s.free walk.lowest)
  fitting-carried (SetSupport z) = tt
  fitting-carried (CloseHour hour) = tt

  fitting-ending : (v : Verdict Deed) → Fitting (ending_of s v).left
  unfolding ending_of turned_away
  fitting-ending (refuse n) = tt
  fitting-ending (accept d) = fitting-carried d

  fitting-by : (t : Bool) (v : Verdict Deed) → Fitting (cond t (ending_of s v) (unsound s)).left
  unfolding unsound
  fitting-by true v = fitting-ending v
  fitting-by false v = tt

  pub fitting : Fitting (ended s (verdict_of p)).left
  unfolding ended
  fitting = fitting-by s.sound (pass (totals_of s) (verdict_of p))

  -- ---- not sound
  ends-unsound : sound b ≡ false → (v : Verdict Deed) → written b (unsound s) ≡ outcome b ms ps (concluded b ms v)
  unfolding outcome concluded held_answered owed_answered unsound
  ends-unsound h v = rw h (rw h (λ i. record { book = record { records = rs; account = account-so i }; answer = Refused 1 (pos 0) (pos 0) }))

  unsound-is : sound b ≡ false → ended s (verdict_of p) ≡ unsound s
  unfolding ended
  unsound-is h = ap (λ (t : Bool). cond t (ending_of s (pass (totals_of s) (verdict_of p))) (unsound s)) (sound-so ∙ h)

  module _ (h : sound b ≡ true) where
    -- held and net owed, as they are kept
    held-so : s.account.held ≡ held b
    held-so = ap (λ (a : Account). a.held) account-so ∙ kept-held b h

    owed-so : s.account.owed ≡ owed b
    owed-so = ap (λ (a : Account). a.owed) account-so ∙ kept-owed b h

    totals-so : totals_of s ≡ totals b
    unfolding totals full
    totals-so = λ i. record {
      support = (account-so i).support;
      held = (account-so i).held;
      owed = (account-so i).owed;
      full = (ap is_none walk.lowest ∙ sym (missing-position is_free rs)) i;
    }

    ends-refused : (n : ℕ) → written b (turned_away s n) ≡ outcome b ms ps (refuse n)
    unfolding outcome held_answered owed_answered turned_away
    ends-refused n = rw h (λ i. record { book = record { records = rs; account = account-so i }; answer = Refused n (held-so i) (owed-so i) })

    -- ---- the next book and its sums
    module _ (q : Record → Bool) (place : Option ℕ) (was new : Record) (c : Change) (found : place ≡ position q rs) (changed : swap q new rs ≡ change c rs) (answers : new.requirement ≡ answered_by c)
        (sums : (f : Record → ℤ) → f blank ≡ pos 0 → total f (change c rs) +ℤ f was ≡ total f rs +ℤ f new) where
      after : (f : Record → ℤ) → f blank ≡ pos 0 → (x : ℤ) → x ≡ total f rs → ((x -ℤ f was) +ℤ f new) ≡ total f (change c rs)
      after f z x e = ap (λ (y : ℤ). (y -ℤ f was) +ℤ f new) e ∙ moved-over (total f rs) (total f (change c rs)) (f was) (f new) (sums f z)

      -- the sums of the next book
      next-sums : with_record (without_record s.sums was) new ≡ sums_of (change c rs)
      next-sums = λ i. record { unbilled = after unbilled_of unbilled-blank s.sums.unbilled (λ j. (walk.sums j).unbilled) i; owed = after owes owes-blank s.sums.owed (λ j. (walk.sums j).owed) i }

      next-held : held_of (with_record (without_record s.sums was) new).unbilled (with_record (without_record s.sums was) new).owed ≡ held_over (change c rs)
      unfolding held
      next-held = ap (λ (t : Sums). held_of t.unbilled t.owed) next-sums ∙ held_by (rebook b b.account (change c rs))

      ends-put : written b (put_in s place was new) ≡ outcome b ms ps (accept (Keyed c))
      unfolding outcome done answer_to put_in held owed
      ends-put = λ i. record {
        book = record { records = (placed-put new rs place ∙ ap (λ (o : Option ℕ). stored rs o new) found ∙ sym (swap-stored q new rs) ∙ changed) i; account = totalled (account-so i) (next-held i) (next-sums i).owed };
        answer = Accepted (answers i) (next-held i) (next-sums i).owed;
      }

    ends-changed : (c : Change) → Fits old m (Keyed c) → None (credit_rows (totals b) (Keyed c)) → written b (carried_out s (Keyed c)) ≡ outcome b ms ps (accept (Keyed c))
    unfolding change
    ends-changed (Add r) f w =
        ends-put is_free s.free blank r (Add r) walk.lowest refl refl
        (λ g z. ap (λ (x : ℤ). total g (swap is_free r rs) +ℤ x) (z ∙ ap (weight g) (sym (lookup-none b (key_of m) f.free))) ∙ (effect b m (Add r) h f w).sums g z)
    ends-changed (Rebid was r) f w =
        ends-put (at (key_of m)) s.at s.old r (Rebid was r) walk.place (ap (λ (k : Key). swap (at k) r rs) (sym f.fine.own)) refl
        (λ g z. ap (λ (x : ℤ). total g (swap (at r.key) r rs) +ℤ x) (ap g walk.under ∙ ap (weight g) (sym (lookup-some b (key_of m) f.used))) ∙ (effect b m (Rebid was r) h f w).sums g z)
    ends-changed (Advance r) f w =
        ends-put (at (key_of m)) s.at s.old r (Advance r) walk.place (ap (λ (k : Key). swap (at k) r rs) (sym f.fine.own)) refl
        (λ g z. ap (λ (x : ℤ). total g (swap (at r.key) r rs) +ℤ x) (ap g walk.under ∙ ap (weight g) (sym (lookup-some b (key_of m) f.used))) ∙ (effect b m (Advance r) h f w).sums g z)
    ends-changed (AddPending r) f w =
        ends-put is_free s.free blank r (AddPending r) walk.lowest refl refl
        (λ g z. ap (λ (x : ℤ). total g (swap is_free r rs) +ℤ x) (z ∙ ap (weight g) (sym (lookup-none b (key_of m) f.added.free))) ∙ (effect b m (AddPending r) h f w).sums g z)
    ends-changed (Remove k) f w =
        ends-put (at (key_of m)) s.at s.old blank (Remove k) walk.place (ap (λ (k : Key). swap (at k) blank rs) (sym f.own)) refl
        (λ g z. ap (λ (x : ℤ). total g (swap (at k) blank rs) +ℤ x) (ap g walk.under ∙ ap (weight g) (sym (lookup-some b (key_of m) f.used))) ∙ (effect b m (Remove k) h f w).sums g z ∙ ap (λ (x : ℤ). total g rs +ℤ x) (sym z))

    ends-carried : (d : Deed) → Fits old m d → None (credit_rows (totals b) d) → NoBatch (carried_out s d).left → written b (carried_out s d) ≡ outcome b ms ps (accept d)
    unfolding outcome done answer_to held owed
    ends-carried (Keyed c) f w q = ends-changed c f w
    ends-carried (CloseHour hour) f w q = absurd q
    ends-carried (SetSupport z) f w q =
        λ i. record { book = record { records = rs; account = record { support = z; held = held-so i; owed = owed-so i } }; answer = Accepted (pos 0) (held-so i) (owed-so i) }

    -- ---- by the plan, and then by 14 to 16
    rows_of : (d : Deed) → Fits old m d → NoBatch (ending_of s (credit_verdict (totals b) d)).left → judge (book_rows b ms d) d ≡ credit_verdict (totals b) d
    unfolding credit_verdict judge first answered ending_of
    rows_of (Keyed c) f q = refl
    rows_of (SetSupport z) f q = refl
    rows_of (CloseHour hour) f q = absurd q

    ends-rows : (d : Deed) → Fits old m d → (v : Verdict Deed) → credit_verdict (totals b) d ≡ v → NoBatch (ending_of s v).left → written b (ending_of s v) ≡ outcome b ms ps v
    unfolding ending_of credit_verdict turned_away
    ends-rows d f (refuse n) e q = ends-refused n
    ends-rows d f (accept d') e q =
        let passed = judge-accept (credit_rows (totals b) d) d d' (credit-rows-numbered (totals b) d) e in
        subst (λ (x : Deed). written b (carried_out s x) ≡ outcome b ms ps (accept x)) passed.1
        (ends-carried d f passed.0 (subst (λ (x : Deed). NoBatch (carried_out s x).left) (sym passed.1) q))

    ends-passed : (v : Verdict Deed) → plan old m ms ps ≡ v → NoBatch (ending_of s (pass (totals b) v)).left
        → written b (ending_of s (pass (totals b) v)) ≡ outcome b ms ps (admitted b ms v)
    unfolding ending_of pass admitted
    ends-passed (refuse n) e q = ends-refused n
    ends-passed (accept d) e q =
        let f = fits old m ms ps d (lookup-under b (key_of m) h) e in
        ends-rows d f (credit_verdict (totals b) d) refl q ∙ ap (outcome b ms ps) (sym (rows_of d f q))

    planned-is : verdict_of p ≡ plan old m ms ps
    planned-is = planned-so

    ended_is : ended s (verdict_of p) ≡ ending_of s (pass (totals b) (plan old m ms ps))
    unfolding ended
    ended_is =
        ap (λ (t : Bool). cond t (ending_of s (pass (totals_of s) (verdict_of p))) (unsound s)) (sound-so ∙ h) ∙ (λ i. ending_of s (pass (totals-so i) (planned-is i)))

    ends-sound : NoBatch (ended s (verdict_of p)).left → written b (ended s (verdict_of p)) ≡ outcome b ms ps (concluded b ms (plan old m ms ps))
    unfolding concluded
    ends-sound q =
        ap (written b) ended_is
        ∙ ends-passed (plan old m ms ps) refl (subst (λ (e : Ending). NoBatch e.left) ended_is q)
        ∙ ap (λ (t : Bool). outcome b ms ps (cond t (admitted b ms (plan old m ms ps)) (refuse 1))) (sym h)

    -- ---- or a batch is left: a close that nothing has turned away by itself
    batch-carried : (d : Deed) → OfBatch (λ (hour : ℕ). d ≡ CloseHour hour) (carried_out s d).left
    unfolding put_in
    batch-carried (Keyed (Add r)) = put-unbatched r (λ (hour : ℕ). Keyed (Add r) ≡ CloseHour hour) s.free
    batch-carried (Keyed (AddPending r)) = put-unbatched r (λ (hour : ℕ). Keyed (AddPending r) ≡ CloseHour hour) s.free
    batch-carried (Keyed (Rebid was r)) = put-unbatched r (λ (hour : ℕ). Keyed (Rebid was r) ≡ CloseHour hour) s.at
    batch-carried (Keyed (Advance r)) = put-unbatched r (λ (hour : ℕ). Keyed (Advance r) ≡ CloseHour hour) s.at
    batch-carried (Keyed (Remove k)) = put-unbatched blank (λ (hour : ℕ). Keyed (Remove k) ≡ CloseHour hour) s.at
    batch-carried (SetSupport z) = tt
    batch-carried (CloseHour hour) = refl

    batch-rows : (d : Deed) (v : Verdict Deed) → credit_verdict (totals b) d ≡ v → OfBatch (λ (hour : ℕ). d ≡ CloseHour hour) (ending_of s v).left
    unfolding ending_of credit_verdict turned_away
    batch-rows d (refuse n) e = tt
    batch-rows d (accept d') e =
        subst (λ (x : Deed). OfBatch (λ (hour : ℕ). x ≡ CloseHour hour) (carried_out s d').left)
        (sym (judge-accept (credit_rows (totals b) d) d d' (credit-rows-numbered (totals b) d) e).1) (batch-carried d')

    batch-passed : (v : Verdict Deed) → OfBatch (λ (hour : ℕ). v ≡ accept (CloseHour hour)) (ending_of s (pass (totals b) v)).left
    unfolding pass ending_of turned_away
    batch-passed (refuse n) = tt
    batch-passed (accept d) =
        batch-too (λ (hour : ℕ). d ≡ CloseHour hour) (λ (hour : ℕ). accept d ≡ accept (CloseHour hour)) (λ hour e. ap accept e) (ending_of s (credit_verdict (totals b) d)).left
        (batch-rows d (credit_verdict (totals b) d) refl)

    batch-sound : OfBatch (λ (hour : ℕ). plan old m ms ps ≡ accept (CloseHour hour)) (ended s (verdict_of p)).left
    batch-sound = subst (λ (e : Ending). OfBatch (λ (hour : ℕ). plan old m ms ps ≡ accept (CloseHour hour)) e.left) (sym ended_is) (batch-passed (plan old m ms ps))

    -- ---- and what it adds up is in range
    old-fine : ok_place old ≡ true
    old-fine = ⊎_elim (λ e. ap ok_place e ∙ ok-blank) (λ r. ok-place old r.0) (lookup-under b (key_of m) h)

    fair : (d : Deed) → Fits old m d → DeedSound d
    fair (Keyed (Add r)) f = ok-place r f.fine.ok
    fair (Keyed (Rebid was r)) f = (subst (Within 1300000000000) (sym f.was) (requirement-bounded old old-fine), ok-place r f.fine.ok)
    fair (Keyed (Advance r)) f = ok-place r f.fine.ok
    fair (Keyed (Remove k)) f = tt
    fair (Keyed (AddPending r)) f = ok-place r f.added.fine.ok
    fair (SetSupport z) f = tt
    fair (CloseHour hour) f = tt

    plan-sound : (x : Result Deed Refusal) → p ≡ x → PlanSound x
    plan-sound (Err e') e = tt
    plan-sound (Ok d) e = fair d (fits old m ms ps d (lookup-under b (key_of m) h) (sym planned-is ∙ ap (verdict_of {X = Deed}) e))

  -- an ending, written, is the step, but for a batch
  ends_by : (t : Bool) → sound b ≡ t → NoBatch (ended s (verdict_of p)).left → written b (ended s (verdict_of p)) ≡ outcome b ms ps (concluded b ms (plan old m ms ps))
  unfolding ended
  ends_by true h q = ends-sound h q
  ends_by false h q =
      ap (λ (t : Bool). written b (cond t (ending_of s (pass (totals_of s) (verdict_of p))) (unsound s))) (sound-so ∙ h) ∙ ends-unsound h (plan old m ms ps)

  pub ends : NoBatch (ended s (verdict_of p)).left → written b (ended s (verdict_of p)) ≡ step b m ms ps
  unfolding step
  ends q = ends_by (sound b) refl q ∙ ap (outcome b ms ps) (sym (verdict-is b m ms ps))

  close-rows : (hour : ℕ) → plan old m ms ps ≡ accept (CloseHour hour) → (h : sound b ≡ true) → None (close_rows hour ms ps)
  unfolding plan
  close-rows hour e h =
      let passed = (judge-accept (plan_rows old m ms ps) (deed_for old m ms ps) (CloseHour hour) (plan-rows-numbered old m ms ps) e).0 in
      subst (λ (x : Message). None (plan_rows old x ms ps)) (fits old m ms ps (CloseHour hour) (lookup-under b (key_of m) h) e).is passed

  left_by : (t : Bool) → sound b ≡ t → OfBatch (HandedOn b m ms ps) (ended s (verdict_of p)).left
  unfolding step concluded admitted unsound
  left_by true h =
      batch-too (λ (hour : ℕ). plan old m ms ps ≡ accept (CloseHour hour)) (HandedOn b m ms ps)
      (λ hour e. record {
        sane = h;
        passed = close-rows hour e h;
        goes =
            ap (outcome b ms ps) (verdict-is b m ms ps)
            ∙ ap (λ (t : Bool). outcome b ms ps (cond t (admitted b ms (plan old m ms ps)) (refuse 1))) h
            ∙ ap (λ (v : Verdict Deed). outcome b ms ps (admitted b ms v)) e;
      })
      (ended s (verdict_of p)).left (batch-sound h)
  left_by false h = subst (λ (e : Ending). OfBatch (HandedOn b m ms ps) e.left) (sym (unsound-is h)) tt

  pub handed-on : OfBatch (HandedOn b m ms ps) (ended s (verdict_of p)).left
  handed-on = left_by (sound b) refl

  pub left : (hour : ℕ) → (ended s (verdict_of p)).left ≡ Batch hour → HandedOn b m ms ps hour
  left hour e = subst (OfBatch (HandedOn b m ms ps)) e handed-on

  pub summable : s.sound ≡ true → Summable s p
  summable t =
      let h : sound b ≡ true = sym sound-so ∙ t in
      record {
        sums = subst (SumsWithin 332800000000000) (sym walk.sums) (sound-within b h few);
        totals = subst TotalsBounded (sym (totals-so h)) (totals-small b h few);
        old = ap ok_place walk.under ∙ old-fine h;
        plan = plan-sound h p refl;
      }
