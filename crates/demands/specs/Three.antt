-- Demand 3: 'Any run that a fresh book accepted in full can be dealt, without its support changes, between two fresh books at the top support,
-- transaction by transaction: neither refuses, each transaction ends at the stage and requirement it had, the two held amounts add up.'
-- 02, order 3: 'Demand 3 then speaks of runs where no batch was removed, with all kind 5 keys of an hour dealt to the same book'.
-- The theorem is demand-three, proofs/Three.antt; the joining of export points is Joining.antt.
-- Assumes nothing.
use Rattle.std.specs.Prelude.{◌≡◌, Bool, true, false, cond, ◌&&◌, List, [], ◌∷◌, ℕ, ℤ, pos, ◌+ℤ◌}
use Rattle.std.specs.Bool.{beq}
use Rattle.keys.specs.declared.Key.{Key}
use Rattle.keys.specs.Keys.{same_key}
use Rattle.records.specs.Records.{blank}
use Rattle.kinds.specs.Kinds.{quarter_hour}
use Rattle.messages.specs.declared.types.Message.{Message}
use Rattle.messages.specs.declared.types.Closing.{Closing}
use Rattle.messages.specs.declared.types.Message.TheVariants.{Open, Revise, Withdraw, Post, Finish, Bill, Pay, Support, OpenCurves, ReviseCurves, Close, OpenSides, ReviseSides, PostSides}
use Rattle.messages.specs.Plan.{key_of, opens}
use Rattle.book.specs.declared.types.Book.{Book}
use Rattle.book.specs.Books.{lookup, held, owed}
use Rattle.refusals.specs.Answers.{reply}
use Rattle.book.specs.Step.{fresh}
use Rattle.demands.specs.Runs.{Sent, sent_to, after}

-- ---- a run

-- each message of the run is accepted: no refusal's number is answered
unfoldable pub Accepted : Book → List Sent → Type 0
Accepted b [] = Unit {0}
Accepted b (x ∷ xs) = ((reply (sent_to b x).answer).number ≡ 0) × Accepted (sent_to b x).book xs

-- 02, order 3: no batch was removed
unfoldable pub Unremoved : Book → List Sent → Type 0
Unremoved b [] = Unit {0}
Unremoved b (x ∷ xs) = ((reply (sent_to b x).answer).removed ≡ false) × Unremoved (sent_to b x).book xs

-- 01: 'Acceptance answers the key's requirement ..'
abbrev pub requirement_of : Book → Sent → ℤ
requirement_of b x = (reply (sent_to b x).answer).requirement

unfoldable pub requirements : Book → List Sent → List ℤ
requirements b [] = []
requirements b (x ∷ xs) = requirement_of b x ∷ requirements (sent_to b x).book xs

-- ---- a run, dealt

-- a message and the side that it is dealt to
pub record Dealt : Type 0 where
  pub side : Bool
  pub sent : Sent

unfoldable pub whole : List Dealt → List Sent
whole [] = []
whole (x ∷ xs) = x.sent ∷ whole xs

-- 01, Turned away: 'keyed messages'. A support change is about no transaction, and a close about an hour's
abbrev pub keyed : Message → Bool
keyed (Open o) = true
keyed (Revise o) = true
keyed (Withdraw k) = true
keyed (Post p) = true
keyed (Finish f) = true
keyed (Bill b) = true
keyed (Pay k) = true
keyed (Support s) = false
keyed (OpenCurves c) = true
keyed (ReviseCurves c) = true
keyed (Close c) = false
keyed (OpenSides s) = true
keyed (ReviseSides s) = true
keyed (PostSides p) = true

-- what is dealt: every message but a support change
abbrev pub is_dealt : Message → Bool
is_dealt (Open o) = true
is_dealt (Revise o) = true
is_dealt (Withdraw k) = true
is_dealt (Post p) = true
is_dealt (Finish f) = true
is_dealt (Bill b) = true
is_dealt (Pay k) = true
is_dealt (Support s) = false
is_dealt (OpenCurves c) = true
is_dealt (ReviseCurves c) = true
is_dealt (Close c) = true
is_dealt (OpenSides s) = true
is_dealt (ReviseSides s) = true
is_dealt (PostSides p) = true

-- what the side s is sent: the messages that are dealt to it, with support changes left out
abbrev pub goes : Bool → Dealt → Bool
goes s x = is_dealt x.sent.message && beq s x.side

unfoldable pub part : Bool → List Dealt → List Sent
part s [] = []
part s (x ∷ xs) = cond (goes s x) (x.sent ∷ part s xs) (part s xs)

-- ---- a transaction is dealt as a whole

-- A transaction lasts from its open to its pay or withdraw, so a key that is opened again is another transaction.
-- `owner o x` says who has each key's latest transaction after x, where o says it before
unfoldable pub owner : (Key → Bool) → Dealt → Key → Bool
owner o x k = cond (opens x.sent.message && same_key (key_of x.sent.message) k) x.side (o k)

unfoldable pub owners : (Key → Bool) → List Dealt → Key → Bool
owners o [] = o
owners o (x ∷ xs) = owners (owner o x) xs

-- `h` says whose the quarter-hour bids of each hour are
pub record Follows (o : Key → Bool) (h : ℕ → Bool) (x : Dealt) : Type 0 where
  -- a keyed message that opens nothing goes where its key's latest open went
  pub later : keyed x.sent.message ≡ true → opens x.sent.message ≡ false → x.side ≡ o (key_of x.sent.message)
  -- 02, order 3: 'all kind 5 keys of an hour dealt to the same book', and a close of that hour goes there
  pub quarters : opens x.sent.message ≡ true → (key_of x.sent.message).kind ≡ quarter_hour → x.side ≡ h (key_of x.sent.message).hour
  pub closing : (c : Closing) → x.sent.message ≡ Close c → x.side ≡ h c.hour

unfoldable pub Fair : (Key → Bool) → (ℕ → Bool) → List Dealt → Type 0
Fair o h [] = Unit {0}
Fair o h (x ∷ xs) = Follows o h x × Fair (owner o x) h xs

-- ---- the three books

-- 01, Numbers: 'support: 0 to 10^15'
abbrev pub top_support : ℕ
top_support = 1_000_000_000_000_000

abbrev pub whole_book : ℤ → List Dealt → Book
whole_book z xs = after (fresh z).book (whole xs)

abbrev pub side_book : Bool → List Dealt → Book
side_book s xs = after (fresh (pos top_support)).book (part s xs)

-- the requirements that the whole book, b at first, answers to the messages that go to the side s
unfoldable pub requirements_to : Bool → Book → List Dealt → List ℤ
requirements_to s b [] = []
requirements_to s b (x ∷ xs) =
    cond (goes s x) (requirement_of b x.sent ∷ requirements_to s (sent_to b x.sent).book xs) (requirements_to s (sent_to b x.sent).book xs)

-- two fresh books at the top support, against the fresh book of support z
pub record DemandThree (o : Key → Bool) (z : ℤ) (xs : List Dealt) : Type 0 where
  -- neither refuses anything
  pub begun : (reply (fresh (pos top_support)).answer).number ≡ 0
  pub taken : (s : Bool) → Accepted (fresh (pos top_support)).book (part s xs)
  -- and neither removes a batch
  pub unremoved : (s : Bool) → Unremoved (fresh (pos top_support)).book (part s xs)
  -- each answered requirement is the whole book's
  pub answers : (s : Bool) → requirements (fresh (pos top_support)).book (part s xs) ≡ requirements_to s (fresh z).book xs
  -- under every key, the side that has its transaction has the whole book's record, and the other has none
  pub records : (s : Bool) (k : Key) → lookup (side_book s xs) k ≡ cond (beq s (owners o xs k)) (lookup (whole_book z xs) k) blank
  -- held amounts add up to the whole book's, and net owed amounts too
  pub holds : held (whole_book z xs) ≡ held (side_book false xs) +ℤ held (side_book true xs)
  pub owes : owed (whole_book z xs) ≡ owed (side_book false xs) +ℤ owed (side_book true xs)
