-- Source document 002's example bid, as its table has it, opened and closed in a fresh book: kept at a support of 412,500 cents, removed at 412,499. Computed.
-- Assumes nothing.
use mathlib.Core.Path.{◌≡◌, refl}
use mathlib.Core.Bool.{true, false}
use mathlib.Core.List.{[], ◌∷◌}
use Prim.Native.Nat.{ℕ}
use lib.IntN.{pos}
use Rattle.amounts.specs.Lists.{sum, every}
use Rattle.distinct.specs.Numbers.{stands_in}
use Rattle.refusals.specs.Refusals.{first, answered, judge}
use Rattle.kinds.specs.Kinds.{by_kind, rules_of}
use Rattle.intervals.specs.Intervals.{interval_mwh, curves_rows, curves_verdict}
use Rattle.closings.specs.Closings.{place_of, each_once, hour_cents, quarter_up, closed_requirement, closed_rows, closed_verdict}
use Rattle.keys.specs.Keys.{same_key, key_rows}
use Rattle.records.specs.Records.{is_blank, is_free, at, is_pending, keeps, ok_record, ok_place}
use Rattle.messages.specs.declared.types.Message.TheVariants.{OpenCurves, Close}
use Rattle.messages.specs.Plan.{intervals_for}
use Rattle.credit.specs.Account.{same_cents, keeps_totals}
use Rattle.credit.specs.Credit.{owes, suspended}
use Rattle.batches.specs.Batches.{pending_paths, unmatched, closed_for, batch_cents, batched}
use Rattle.book.specs.Places.{find, swap, missing, or_else_blank}
use Rattle.book.specs.Books.{lookup, distinct, sound_by01, sound, held, owed, full, totals, no_records}
use Rattle.book.specs.Refusals.{table}
use Rattle.book.specs.Step.{deed_of, verdict, change, too_much, done, answer_to, outcome, step, fresh}
use Rattle.refusals.specs.Answers.{Reply, reply}
use Rattle.book.specs.declared.types.Book.{Book}
use Rattle.demands.specs.Runs.{Sent, sent_to, after}

-- 30, 40 and 100 MWh; 60 and 100; one point of 0 MWh; 100. The bid prices are none of the amount
abbrev opened : Sent
opened =
    record {
      message = OpenCurves (record { key = record { kind = 5; path = 7; hour = 12 }; counts = record { first = 3; second = 2; third = 1; fourth = 1 } });
      mwhs = 30 ∷ 40 ∷ 100 ∷ 60 ∷ 100 ∷ 0 ∷ 100 ∷ [];
      prices = pos 400 ∷ pos 500 ∷ pos 1000 ∷ pos 300 ∷ pos 500 ∷ pos 0 ∷ pos 1000 ∷ [];
    }

-- $30, $40, $50 and $50
abbrev closed : Sent
closed = record { message = Close (record { hour = 12 }); mwhs = 7 ∷ []; prices = pos 3000 ∷ pos 4000 ∷ pos 5000 ∷ pos 5000 ∷ [] }

abbrev pending : ℕ → Book
pending support = after (fresh (pos support)).book (opened ∷ [])

abbrev answer : ℕ → Reply
answer support = reply (sent_to (pending support) closed).answer

pub record Paper : Type 0 where
  -- '$4,125'
  pub kept : answer 412500 ≡ record { number = 0; requirement = pos 412500; held = pos 412500; owed = pos 0; removed = false }
  pub removed : answer 412499 ≡ record { number = 0; requirement = pos 0; held = pos 0; owed = pos 0; removed = true }
  pub kept-stage : (lookup (sent_to (pending 412500) closed).book (record { kind = 5; path = 7; hour = 12 })).stage ≡ 2
  pub removed-stage : (lookup (sent_to (pending 412499) closed).book (record { kind = 5; path = 7; hour = 12 })).stage ≡ 0

pub paper : Paper
unfolding after fresh step verdict outcome answer_to done change too_much deed_of table judge answered first lookup find swap missing or_else_blank sound sound_by01 keeps_totals same_cents every distinct ok_place ok_record keeps is_blank is_free is_pending same_key at no_records totals held owed owes full suspended sum intervals_for key_rows curves_rows closed_rows curves_verdict closed_verdict by_kind rules_of interval_mwh place_of each_once stands_in hour_cents quarter_up closed_requirement pending_paths unmatched closed_for batch_cents batched
paper = record { kept = refl; removed = refl; kept-stage = refl; removed-stage = refl }
