-- For the code's own steps alone: how a message ends, over what it sees of a book and nothing more. Nothing here is the paper's: crate `book`, proofs/Written.antt, shows that it is the step.
-- Assumes nothing.
use Rattle.std.specs.Prelude.{Result, Ok, Err, ◌≡◌, true, ◌&&◌, cond, List, ℕ, ℤ, pos, Option, Some, None, is_none}
use Rattle.amounts.specs.Amount.{Within}
use Rattle.amounts.specs.Limits.{is_support}
use Rattle.distinct.specs.Numbers.{all_distinct}
use Rattle.refusals.specs.Refusals.{Verdict, refuse, accept, judge}
use Rattle.messages.specs.declared.types.Change.TheVariants.{Add, Rebid, Advance, Remove, AddPending}
use Rattle.messages.specs.declared.types.Deed.{Deed}
use Rattle.messages.specs.declared.types.Deed.TheVariants.{Keyed, SetSupport, CloseHour}
use Rattle.refusals.specs.declared.Refusal.{Refusal}
use Rattle.records.specs.declared.types.Record.{Record}
use Rattle.records.specs.Records.{blank, ok_place}
use Rattle.walk.specs.declared.types.Walk.{Walk}
use Rattle.credit.specs.declared.types.Totals.{Totals}
use Rattle.credit.specs.declared.types.Account.{Account}
use Rattle.credit.specs.Account.{supported}
use Rattle.credit.specs.Credit.{credit_rows}
use Rattle.credit.specs.Sums.{with_record, without_record, summed, keeps_sums}
use Rattle.credit.specs.NoOverflow.{SumsWithin, TotalsBounded}
use Rattle.refusals.specs.declared.Answer.{Answer}
use Rattle.refusals.specs.declared.Answer.TheVariants.{Accepted, Refused}
use Rattle.endings.specs.declared.types.Left.{Left}
use Rattle.endings.specs.declared.types.Left.TheVariants.{Nothing, Put, Batch}
pub use Rattle.endings.specs.declared.types.View.{View}
pub use Rattle.endings.specs.declared.types.Ending.{Ending}

-- ---- what a message sees

-- once a walk has passed every place, each in range: the keys' numbers stand apart, the kept totals are the sums' (02, order 1), and so on
abbrev pub view_of : Walk → Account → List ℕ → Record → View
view_of s account codes old =
    record {
      sound = is_support account.support && all_distinct codes && keeps_sums account s.sums;
      account = account;
      sums = s.sums;
      free = s.free;
      at = s.at;
      old = old;
    }

-- what refusals 14 to 16 see of it
abbrev pub totals_of : View → Totals
totals_of s = record { support = s.account.support; held = s.account.held; owed = s.account.owed; full = is_none s.free }

-- ---- that no sum leaves an i64; no function of `Book` asks it

-- the requirements that a deed brings
abbrev pub DeedSound : Deed → Type 0
DeedSound (Keyed (Add r)) = ok_place r ≡ true
DeedSound (Keyed (Rebid was r)) = Within 1300000000000 was × (ok_place r ≡ true)
DeedSound (Keyed (Advance r)) = ok_place r ≡ true
DeedSound (Keyed (Remove k)) = Unit {0}
DeedSound (Keyed (AddPending r)) = ok_place r ≡ true
DeedSound (SetSupport support) = Unit {0}
DeedSound (CloseHour hour) = Unit {0}

abbrev pub PlanSound : Result Deed Refusal → Type 0
PlanSound (Err e) = Unit {0}
PlanSound (Ok d) = DeedSound d

-- all that an ending adds up is in range
pub record Summable (s : View) (p : Result Deed Refusal) : Type 0 where
  pub sums : SumsWithin 332800000000000 s.sums
  pub totals : TotalsBounded (totals_of s)
  pub old : ok_place s.old ≡ true
  pub plan : PlanSound p

-- ---- the verdict

unfoldable pub credit_verdict : Totals → Deed → Verdict Deed
credit_verdict t d = judge (credit_rows t d) d

-- 2 to 13 first: 14 to 16 are asked where those have passed
unfoldable pub pass : Totals → Verdict Deed → Verdict Deed
pass t (refuse n) = refuse n
pass t (accept d) = credit_verdict t d

-- ---- the ways in which a message ends

-- the kept held and net owed are answered
abbrev pub accepting : ℤ → Account → Answer
accepting requirement account = Accepted requirement account.held account.owed

abbrev pub refusing : ℕ → Account → Answer
refusing number account = Refused number account.held account.owed

abbrev pub unwritten : Answer → Account → Ending
unwritten answer account = record { answer = answer; account = account; left = Nothing }

unfoldable pub unsound : View → Ending
unsound s = unwritten (Refused 1 (pos 0) (pos 0)) s.account

unfoldable pub turned_away : View → ℕ → Ending
turned_away s n = unwritten (refusing n s.account) s.account

-- a record in another's stead: what is kept with the totals of the next sums
abbrev pub account_after : View → Record → Record → Account
account_after s was new = summed s.account (with_record (without_record s.sums was) new)

-- where there is no such place, nothing is written
abbrev pub put_at : Option ℕ → Record → Left
put_at None new = Nothing
put_at (Some place) new = Put place new

unfoldable pub put_in : View → Option ℕ → Record → Record → Ending
put_in s place was new =
    record {
      answer = accepting new.requirement (account_after s was new);
      account = account_after s was new;
      left = put_at place new;
    }

-- a close, once nothing has turned it away by itself: the places have still to be asked (02, order 3)
abbrev pub left_to : View → ℕ → Ending
left_to s hour = record { answer = accepting (pos 0) s.account; account = s.account; left = Batch hour }

abbrev pub carried_out : View → Deed → Ending
carried_out s (Keyed (Add r)) = put_in s s.free blank r
carried_out s (Keyed (Rebid was r)) = put_in s s.at s.old r
carried_out s (Keyed (Advance r)) = put_in s s.at s.old r
carried_out s (Keyed (Remove k)) = put_in s s.at s.old blank
carried_out s (Keyed (AddPending r)) = put_in s s.free blank r
carried_out s (SetSupport support) = unwritten (accepting (pos 0) (supported s.account support)) (supported s.account support)
carried_out s (CloseHour hour) = left_to s hour

unfoldable pub ending_of : View → Verdict Deed → Ending
ending_of s (refuse n) = turned_away s n
ending_of s (accept d) = carried_out s d

unfoldable pub ended : View → Verdict Deed → Ending
ended s v = cond s.sound (ending_of s (pass (totals_of s) v)) (unsound s)
