-- Document 01, 'Messages and stages' and 'Turned away, and why', and 02, order 3: what a message answers, and the next book.
-- The table of refusals is specs/Refusals.antt; what a message asks for stands in crate `messages`, specs/Plan.antt, and what a close makes of each place in `batches`, specs/Batches.antt.
-- Assumes nothing.
use Rattle.std.specs.Prelude.{Bool, cond, List, map, ℕ, ℤ, pos}
use Rattle.amounts.specs.Limits.{is_support}
use Rattle.refusals.specs.Refusals.{Verdict, refuse, accept, judge}
use Rattle.records.specs.declared.types.Record.{Record}
use Rattle.messages.specs.declared.types.Message.{Message}
use Rattle.messages.specs.declared.types.Change.{Change}
use Rattle.messages.specs.declared.types.Change.TheVariants.{Add, Rebid, Advance, Remove, AddPending}
use Rattle.messages.specs.declared.types.Deed.{Deed}
use Rattle.messages.specs.declared.types.Deed.TheVariants.{Keyed, SetSupport, CloseHour}
use Rattle.records.specs.Records.{blank, is_free, at}
use Rattle.messages.specs.Plan.{key_of, deed_for}
use Rattle.batches.specs.Batches.{batch_cents, exceeds, batched}
use Rattle.refusals.specs.declared.Answer.{Answer}
use Rattle.refusals.specs.declared.Answer.TheVariants.{Accepted, Refused, Removed}
pub use Rattle.book.specs.declared.types.Outcome.{Outcome}
use Rattle.book.specs.Places.{swap}
use Rattle.credit.specs.declared.types.Account.{Account}
use Rattle.credit.specs.Account.{supported}
use Rattle.credit.specs.Credit.{answered_by}
use Rattle.book.specs.Books.{Book, lookup, held, owed, held_answered, owed_answered, empty, account_over}
use Rattle.book.specs.Refusals.{table}

-- ---- accepted or refused

-- what a message asks for
unfoldable pub deed_of : Book → Message → List ℕ → List ℤ → Deed
deed_of b m mwhs prices = deed_for (lookup b (key_of m)) m mwhs prices

-- accepted exactly when no row of the table applies, else the first
unfoldable pub verdict : Book → Message → List ℕ → List ℤ → Verdict Deed
verdict b m mwhs prices = judge (table b m mwhs prices) (deed_of b m mwhs prices)

-- ---- the next book

-- 'A new record takes the lowest free place; .. freed places are used again'
unfoldable pub change : Change → List Record → List Record
change (Add r) places = swap is_free r places
change (Rebid was r) places = swap (at r.key) r places
change (Advance r) places = swap (at r.key) r places
change (Remove k) places = swap (at k) blank places
change (AddPending r) places = swap is_free r places

-- the one way in which a book follows from another: it keeps the totals of its places (02, order 1)
abbrev pub rebook : Book → Account → List Record → Book
rebook b account places = record { records = places; account = account_over account places }

-- 02, order 3: 'All pending bids of that hour are one batch: if held with the batch exceeds support, every one is removed'
unfoldable pub too_much : Book → ℕ → List ℕ → List ℤ → Bool
too_much b hour paths prices = exceeds b.account.support b.account.held (batch_cents hour paths prices b.records)

unfoldable pub done : Book → List ℕ → List ℤ → Deed → Book
done b mwhs prices (Keyed c) = rebook b b.account (change c b.records)
done b mwhs prices (SetSupport support) = rebook b (supported b.account support) b.records
done b paths prices (CloseHour hour) = rebook b b.account (map (batched (too_much b hour paths prices) hour paths prices) b.records)

-- ---- the answer

-- 'Acceptance answers the key's requirement (0 after .. support), held and net owed of the next book'; 02, order 3: 'Close answers the batch's summed requirement, 0 if removed',
-- 'and the answer says so'
unfoldable pub answer_to : Book → List ℕ → List ℤ → Deed → ℤ → ℤ → Answer
answer_to b mwhs prices (Keyed c) held owed = Accepted (answered_by c) held owed
answer_to b mwhs prices (SetSupport support) held owed = Accepted (pos 0) held owed
answer_to b paths prices (CloseHour hour) held owed =
    cond (too_much b hour paths prices) (Removed held owed) (Accepted (batch_cents hour paths prices b.records) held owed)

-- 'A refusal answers its number, ..
-- the held and net owed of the unchanged book (both 0 for 1)'
unfoldable pub outcome : Book → List ℕ → List ℤ → Verdict Deed → Outcome
outcome b mwhs prices (refuse n) = record { book = b; answer = Refused n (held_answered b) (owed_answered b) }
outcome b mwhs prices (accept d) = record { book = done b mwhs prices d; answer = answer_to b mwhs prices d (held (done b mwhs prices d)) (owed (done b mwhs prices d)) }

unfoldable pub step : Book → Message → List ℕ → List ℤ → Outcome
step b m mwhs prices = outcome b mwhs prices (verdict b m mwhs prices)

-- 'an out-of-range support answers refusal 9 and an empty book of support 0'
unfoldable pub fresh : ℤ → Outcome
fresh support =
    cond (is_support support)
    (record { book = empty support; answer = Accepted (pos 0) (pos 0) (pos 0) })
    (record { book = empty (pos 0); answer = Refused 9 (pos 0) (pos 0) })
