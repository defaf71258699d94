-- 02, order 1, beside document 01 as it was: on every sound book the kept totals are the full walk's, and the order changes no answer, no record and no support; what a rebuilt book is.
-- Assumes nothing.
use Rattle.std.specs.Prelude.{◌≡◌, Bool, true, not, cond, List, ◌∷◌, ◌++◌, map, ℕ, ℤ, pos}
use Rattle.refusals.specs.Refusals.{Row, row, Verdict, refuse, accept, judge}
use Rattle.refusals.specs.declared.Answer.{Answer}
use Rattle.refusals.specs.declared.Answer.TheVariants.{Accepted, Refused, Removed}
use Rattle.keys.specs.declared.Key.{Key}
use Rattle.records.specs.declared.types.Record.{Record}
use Rattle.records.specs.Records.{blank, is_free, at}
use Rattle.messages.specs.declared.types.Message.{Message}
use Rattle.messages.specs.declared.types.Deed.{Deed}
use Rattle.messages.specs.declared.types.Deed.TheVariants.{Keyed, SetSupport, CloseHour}
use Rattle.messages.specs.Plan.{key_of, plan_rows, deed_for}
use Rattle.credit.specs.declared.types.Totals.{Totals}
use Rattle.credit.specs.Credit.{credit_rows, answered_by}
use Rattle.batches.specs.Batches.{batch_rows, batch_cents, exceeds, batched}
use Rattle.book.specs.declared.types.Book.{Book}
use Rattle.book.specs.declared.types.Outcome.{Outcome}
use Rattle.book.specs.Places.{find, missing, or_else_blank}
use Rattle.book.specs.Books.{sound_by01, sound, held, owed, held_over, owed_over, held_shown, owed_shown, rebuilt}
use Rattle.book.specs.Step.{change, step}

-- ---- the book of the older form: a support and places, every total by the walk

pub record Older : Type 0 where
  pub support : ℤ
  pub records : List Record
  pub answer : Answer

abbrev pub walked : ℤ → List Record → Totals
walked support places = record { support = support; held = held_over places; owed = owed_over places; full = missing (find is_free places) }

abbrev pub under : List Record → Key → Record
under places k = or_else_blank blank (find (at k) places)

-- 14 to 16, which see the totals; a close's 11, which sees the places (02, order 3)
abbrev pub lower_rows : ℤ → List Record → List ℕ → Deed → List Row
lower_rows support places paths (Keyed c) = credit_rows (walked support places) (Keyed c)
lower_rows support places paths (SetSupport new) = credit_rows (walked support places) (SetSupport new)
lower_rows support places paths (CloseHour hour) = batch_rows hour paths places

-- row 1 by 01's clauses alone; 2 to 13, which see the message and the record under its key; then those
abbrev pub older_rows : ℤ → List Record → Message → List ℕ → List ℤ → List Row
older_rows support places m mwhs prices =
    row 1 (not (sound_by01 support places)) ∷ (plan_rows (under places (key_of m)) m mwhs prices ++ lower_rows support places mwhs (deed_for (under places (key_of m)) m mwhs prices))

-- the batch of an hour, by the walk
abbrev pub older_much : ℤ → List Record → ℕ → List ℕ → List ℤ → Bool
older_much support places hour paths prices = exceeds support (held_over places) (batch_cents hour paths prices places)

abbrev pub older_places : ℤ → List Record → ℕ → List ℕ → List ℤ → List Record
older_places support places hour paths prices = map (batched (older_much support places hour paths prices) hour paths prices) places

unfoldable pub older_outcome : ℤ → List Record → List ℕ → List ℤ → Verdict Deed → Older
older_outcome support places mwhs prices (refuse n) =
    record { support = support; records = places; answer = Refused n (cond (sound_by01 support places) (held_over places) (pos 0)) (cond (sound_by01 support places) (owed_over places) (pos 0)) }
older_outcome support places mwhs prices (accept (Keyed c)) =
    record { support = support; records = change c places; answer = Accepted (answered_by c) (held_over (change c places)) (owed_over (change c places)) }
older_outcome support places mwhs prices (accept (SetSupport new)) = record { support = new; records = places; answer = Accepted (pos 0) (held_over places) (owed_over places) }
older_outcome support places paths prices (accept (CloseHour hour)) =
    let next = older_places support places hour paths prices in
    record {
      support = support;
      records = next;
      answer =
          cond (older_much support places hour paths prices) (Removed (held_over next) (owed_over next))
          (Accepted (batch_cents hour paths prices places) (held_over next) (owed_over next));
    }

unfoldable pub older_step : ℤ → List Record → Message → List ℕ → List ℤ → Older
older_step support places m mwhs prices = older_outcome support places mwhs prices (judge (older_rows support places m mwhs prices) (deed_for (under places (key_of m)) m mwhs prices))

-- ---- the order

-- what the older form had of an outcome
abbrev pub as_older : Outcome → Older
as_older o = record { support = o.book.account.support; records = o.book.records; answer = o.answer }

pub record OrderOne (b : Book) : Type 0 where
  -- 'On every sound book the answer equals the full walk'
  pub held_walked : sound b ≡ true → held_shown b ≡ held b
  pub owed_walked : sound b ≡ true → owed_shown b ≡ owed b
  -- the same answers, records and support as before it
  pub unchanged : sound b ≡ true → (m : Message) (mwhs : List ℕ) (prices : List ℤ) → as_older (step b m mwhs prices) ≡ older_step b.account.support b.records m mwhs prices
  -- rebuilding a sound book gives it back
  pub back : sound b ≡ true → rebuilt b.account.support b.records ≡ b

-- 'a book of the older form is rebuilt first': it has exactly these, and is sound exactly where they were by 01
pub record Rebuilt (support : ℤ) (places : List Record) : Type 0 where
  pub its_support : (rebuilt support places).account.support ≡ support
  pub its_places : (rebuilt support places).records ≡ places
  pub sound_as : sound (rebuilt support places) ≡ sound_by01 support places
