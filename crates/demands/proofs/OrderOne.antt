-- 02, order 1: the kept totals are the walk's, and what a message does to a sound book is what it did before.
-- Assumes nothing.
use mathlib.Core.Path.{◌≡◌, refl, sym, ap, ◌∙◌}
use mathlib.Core.Bool.{Bool, true, false, not, cond, ◌&&◌}
use mathlib.Core.List.{List, ◌∷◌, ◌++◌, map}
use Prim.Native.Nat.{ℕ}
use lib.IntN.{ℤ}
use Rattle.amounts.specs.Limits.{is_support}
use Rattle.amounts.specs.Lists.{every}
use Rattle.refusals.proofs.Laws.{and_none}
use Rattle.refusals.specs.Refusals.{Row, row, Verdict, refuse, accept, judge}
use Rattle.refusals.specs.declared.Answer.TheVariants.{Accepted, Removed}
use Rattle.records.specs.declared.types.Record.{Record}
use Rattle.records.specs.Records.{ok_place}
use Rattle.messages.specs.declared.types.Message.{Message}
use Rattle.messages.specs.declared.types.Deed.{Deed}
use Rattle.messages.specs.declared.types.Deed.TheVariants.{Keyed, SetSupport, CloseHour}
use Rattle.messages.specs.Plan.{key_of, plan_rows}
use Rattle.credit.specs.declared.types.Totals.{Totals}
use Rattle.credit.specs.Account.{fresh_account}
use Rattle.credit.specs.Credit.{credit_rows}
use Rattle.batches.specs.Batches.{batch_cents, exceeds, batched}
use Rattle.credit.proofs.Keeping.{keeps-own}
use Rattle.book.specs.declared.types.Book.{Book}
use Rattle.book.specs.Books.{lookup, sound_by01, sound, distinct, held, owed, held_over, owed_over, full, totals, held_shown, owed_shown, held_answered, owed_answered, account_over, rebuilt}
use Rattle.book.specs.Step.{deed_of, too_much, done, answer_to, outcome, verdict, step}
use Rattle.book.proofs.Kept.{sound-by-01, sound-places, kept-held, kept-owed}
use Rattle.book.proofs.Verdicts.{book_rows, table-parts}
use Rattle.demands.specs.OrderOne.{walked, lower_rows, older_rows, older_much, older_outcome, older_step, as_older, OrderOne, Rebuilt}

module _ (b : Book) (h : sound b ≡ true) where
  abbrev support : ℤ
  support = b.account.support

  abbrev rs : List Record
  rs = b.records

  totals-walked : totals b ≡ walked support rs
  unfolding totals held owed full
  totals-walked = λ i. record { support = support; held = kept-held b h i; owed = kept-owed b h i; full = full b }

  -- the rows below 13 by the walk
  lower-same : (paths : List ℕ) (d : Deed) → lower_rows support rs paths d ≡ book_rows b paths d
  lower-same paths (Keyed c) = ap (λ (t : Totals). credit_rows t (Keyed c)) (sym totals-walked)
  lower-same paths (SetSupport z) = ap (λ (t : Totals). credit_rows t (SetSupport z)) (sym totals-walked)
  lower-same paths (CloseHour hour) = refl

  -- and whether a batch is too much
  much-same : (hour : ℕ) (paths : List ℕ) (prices : List ℤ) → too_much b hour paths prices ≡ older_much support rs hour paths prices
  unfolding too_much held
  much-same hour paths prices = ap (λ (z : ℤ). exceeds support z (batch_cents hour paths prices rs)) (kept-held b h)

  module _ (m : Message) (ms : List ℕ) (ps : List ℤ) where
    rows_same : judge (older_rows support rs m ms ps) (deed_of b m ms ps) ≡ verdict b m ms ps
    unfolding verdict lookup deed_of
    rows_same =
        (λ i. judge (row 1 (not ((sound-by-01 b h ∙ sym h) i)) ∷ (plan_rows (lookup b (key_of m)) m ms ps ++ lower-same ms (deed_of b m ms ps) i)) (deed_of b m ms ps))
        ∙ ap (λ (l : List Row). judge l (deed_of b m ms ps)) (sym (table-parts b m ms ps))

    outcome-same : (v : Verdict Deed) → as_older (outcome b ms ps v) ≡ older_outcome support rs ms ps v
    unfolding outcome older_outcome done answer_to held owed held_answered owed_answered
    outcome-same (refuse n) = rw (h, sound-by-01 b h) refl
    outcome-same (accept (Keyed c)) = refl
    outcome-same (accept (SetSupport z)) = refl
    outcome-same (accept (CloseHour hour)) =
        ap (λ (t : Bool). let next = map (batched t hour ms ps) rs in
        record {
          support = support;
          records = next;
          answer = cond t (Removed (held_over next) (owed_over next)) (Accepted (batch_cents hour ms ps rs) (held_over next) (owed_over next));
        }) (much-same hour ms ps)

    unchanged : as_older (step b m ms ps) ≡ older_step support rs m ms ps
    unfolding step older_step deed_of lookup
    unchanged = outcome-same (verdict b m ms ps) ∙ ap (older_outcome support rs ms ps) (sym rows_same)

  back : rebuilt support rs ≡ b
  unfolding rebuilt held owed
  back = rw (sound-places b h) (λ i. record { records = rs; account = record { support = support; held = sym (kept-held b h) i; owed = sym (kept-owed b h) i } })

pub order-one : (b : Book) → OrderOne b
unfolding held_shown owed_shown
order-one b = record { held_walked = kept-held b; owed_walked = kept-owed b; unchanged = unchanged b; back = back b }

module _ (support : ℤ) (places : List Record) where
  and-true : (a c : Bool) → c ≡ true → (a && c) ≡ a
  and-true true c e = e
  and-true false c e = refl

  none : every ok_place places ≡ false → sound_by01 support places ≡ false
  unfolding sound_by01
  none e = and_none (is_support support) (every ok_place places) (distinct places) e

  -- where each place is in range the totals are the places', so they are right; else no book with these places is sound
  sound-by : (t : Bool) → every ok_place places ≡ t
      → sound (record { records = places; account = cond t (account_over (fresh_account support) places) (fresh_account support) }) ≡ sound_by01 support places
  unfolding sound held owed
  sound-by true e = and-true (sound_by01 support places) _ (keeps-own (account_over (fresh_account support) places))
  sound-by false e = rw (none e) refl

  support-so : (t : Bool) → (cond t (account_over (fresh_account support) places) (fresh_account support)).support ≡ support
  support-so true = refl
  support-so false = refl

  pub rebuilt-right : Rebuilt support places
  unfolding rebuilt
  rebuilt-right = record { its_support = support-so (every ok_place places); its_places = refl; sound_as = sound-by (every ok_place places) refl }
