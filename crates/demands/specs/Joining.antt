-- Demand 3: 'Joining two lists of export points commutes, is never less than either alone, never more than both added.'
-- For the book: opening a group of kind 2 or 3 with the points of two groups. The theorems are joining-open and joined-opens, proofs/Joining.antt.
-- Assumes nothing.
use Rattle.std.specs.Prelude.{◌≡◌, List, ℕ, ℤ, ◌+ℤ◌, ◌≤ℤ◌}
use Rattle.messages.specs.declared.types.Opening.{Opening}
use Rattle.messages.specs.declared.types.Message.TheVariants.{Open}
use Rattle.book.specs.declared.types.Book.{Book}
use Rattle.book.specs.Books.{lookup}
use Rattle.refusals.specs.Answers.{reply}
use Rattle.book.specs.Step.{step}

-- the book b accepts the open, and the requirement that stands under its key is then `cents`
pub record Opens (b : Book) (o : Opening) (mwhs : List ℕ) (prices : List ℤ) (cents : ℤ) : Type 0 where
  pub accepted : (reply (step b (Open o) mwhs prices).answer).number ≡ 0
  pub sets : (lookup (step b (Open o) mwhs prices).book o.key).requirement ≡ cents

-- `either` and `other` of the points joined in one order and in the other, `first` and `second` of each group alone
pub record Joins (first second either other : ℤ) : Type 0 where
  pub commutes : either ≡ other
  pub left : first ≤ℤ either
  pub right : second ≤ℤ either
  pub together : either ≤ℤ (first +ℤ second)
