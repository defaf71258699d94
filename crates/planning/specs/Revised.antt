-- 02, order 7: 'two accepted revisions of one key, back to back, equal the second alone, which would also have been accepted'; and, since planners 'revise it over and over', any number of them equal the last.
-- The theorems are second-alone and last-alone, proofs/Revised.antt.
-- Assumes nothing.
use Rattle.std.specs.Prelude.{◌≡◌, Bool, true, false, List, [], ◌∷◌, ℕ}
use Rattle.keys.specs.declared.Key.{Key}
use Rattle.messages.specs.declared.types.Message.{Message}
use Rattle.messages.specs.declared.types.Message.TheVariants.{Open, Revise, Withdraw, Post, Finish, Bill, Pay, Support, OpenCurves, ReviseCurves, Close, OpenSides, ReviseSides, PostSides}
use Rattle.messages.specs.Plan.{key_of}
use Rattle.refusals.specs.Answers.{reply}
use Rattle.book.specs.declared.types.Book.{Book}
use Rattle.demands.specs.Runs.{Sent, sent_to, after}

-- a revision: of one curve, of four or of two sides, so of every kind
abbrev pub revises : Message → Bool
revises (Open o) = false
revises (Revise o) = true
revises (Withdraw k) = false
revises (Post p) = false
revises (Finish f) = false
revises (Bill b) = false
revises (Pay k) = false
revises (Support s) = false
revises (OpenCurves c) = false
revises (ReviseCurves c) = true
revises (Close c) = false
revises (OpenSides s) = false
revises (ReviseSides s) = true
revises (PostSides p) = false

-- a revision of this key, with the lists beside it
pub record Revision (k : Key) (x : Sent) : Type 0 where
  pub revises : revises x.message ≡ true
  pub own : key_of x.message ≡ k

-- the number that is answered, 0 where the message is accepted
abbrev pub number_of : Book → Sent → ℕ
number_of b x = (reply (sent_to b x).answer).number

module _ (b : Book) (k : Key) (first second : Sent) where
  -- 'two accepted revisions of one key, back to back'
  pub record BackToBack : Type 0 where
    pub first_revises : Revision k first
    pub second_revises : Revision k second
    pub first_accepted : number_of b first ≡ 0
    pub second_accepted : number_of (sent_to b first).book second ≡ 0

  pub record SecondAlone : Type 0 where
    -- 'which would also have been accepted'
    pub accepted : BackToBack → number_of b second ≡ 0
    -- 'equal the second alone': the same next book, and the same answer
    pub same : BackToBack → sent_to (sent_to b first).book second ≡ sent_to b second

-- ---- 'or revise it over and over'

abbrev pub Revisions : Key → List Sent → Type 0
Revisions k [] = Unit {0}
Revisions k (x ∷ xs) = Revision k x × Revisions k xs

module _ (b : Book) (k : Key) (before : List Sent) (last : Sent) where
  -- any number of revisions of the key, each accepted or refused, and one that is accepted after them
  pub record OverAndOver : Type 0 where
    pub earlier : Revisions k before
    pub latest : Revision k last
    pub last_accepted : number_of (after b before) last ≡ 0

  pub record LastAlone : Type 0 where
    pub accepted : OverAndOver → number_of b last ≡ 0
    pub same : OverAndOver → sent_to (after b before) last ≡ sent_to b last
