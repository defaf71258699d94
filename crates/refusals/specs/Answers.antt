-- Document 01, 'Turned away, and why', and 'What is promised', and 02, order 3: the paper's number and values for each case of an answer.
-- Assumes nothing.
use Rattle.std.specs.Prelude.{Bool, true, false, ℕ, ℤ, pos}
pub use Rattle.refusals.specs.declared.Bid.{Bid}
pub use Rattle.refusals.specs.declared.Answer.{Answer}
pub use Rattle.refusals.specs.declared.Answer.TheVariants.{Accepted, Refused, Removed}
use Rattle.refusals.specs.Refusals.{Verdict, refuse, accept}

-- ---- a bid

-- 01, What is promised: a refusal answers 0 throughout
abbrev pub bid_of : Verdict Bid → Bid
bid_of (accept bid) = bid
bid_of (refuse n) = record { mwh = 0; cents = pos 0 }

-- ---- a message

pub record Reply : Type 0 where
  pub number : ℕ
  pub requirement : ℤ
  pub held : ℤ
  pub owed : ℤ
  -- 02, order 3: 'every one is removed, and the answer says so'
  pub removed : Bool

-- 0 is no refusal; 'a refusal answers its number, requirement 0'
abbrev pub reply : Answer → Reply
reply (Accepted requirement held owed) = record { number = 0; requirement = requirement; held = held; owed = owed; removed = false }
reply (Refused number held owed) = record { number = number; requirement = pos 0; held = held; owed = owed; removed = false }
-- 02, order 3: a close is accepted and its batch removed: 'Close answers the batch's summed requirement, 0 if removed'
reply (Removed held owed) = record { number = 0; requirement = pos 0; held = held; owed = owed; removed = true }
