-- A message sent to a book, with the two lists of points beside it: what is answered, and the next book. Runs of messages.
-- Assumes nothing.
use Rattle.std.specs.Prelude.{List, [], ◌∷◌, ℕ, ℤ}
use Rattle.messages.specs.declared.types.Message.{Message}
use Rattle.refusals.specs.Answers.{Reply, reply}
use Rattle.book.specs.declared.types.Book.{Book}
use Rattle.book.specs.declared.types.Outcome.{Outcome}
use Rattle.book.specs.Step.{step}

module _ (b : Book) (m : Message) (mwhs : List ℕ) (prices : List ℤ) where
  abbrev pub next_book : Book
  next_book = (step b m mwhs prices).book

  -- the paper's number and values of the answer; the number 0 is no refusal
  abbrev pub replied : Reply
  replied = reply (step b m mwhs prices).answer

pub record Sent : Type 0 where
  pub message : Message
  pub mwhs : List ℕ
  pub prices : List ℤ

abbrev pub sent_to : Book → Sent → Outcome
sent_to b x = step b x.message x.mwhs x.prices

-- the book after a run
unfoldable pub after : Book → List Sent → Book
after b [] = b
after b (x ∷ xs) = after (sent_to b x).book xs
