-- 02, order 3: 'All pending bids of that hour are one batch'. What a close finds in the places of a book, and what it makes of them.
-- Assumes nothing.
use Rattle.std.specs.Prelude.{Bool, true, false, not, ◌&&◌, ◌||◌, cond, List, [], ◌∷◌, ℕ, ℤ, pos, ◌+ℤ◌}
use Rattle.std.specs.Int.Signed.{lt_z}
use Rattle.amounts.specs.Lists.{total, every}
use Rattle.distinct.specs.Numbers.{stands_in}
use Rattle.refusals.specs.Refusals.{Row, row}
use Rattle.refusals.specs.Figures.{cents_of}
use Rattle.kinds.specs.Kinds.{posted_stage}
use Rattle.closings.specs.Closings.{place_of, quote_at, closed_verdict}
use Rattle.records.specs.declared.types.Record.{Record}
use Rattle.records.specs.Records.{blank, advanced, is_pending}

-- ---- 'exactly the pending keys of that hour, each once'

-- the paths of the hour's pending bids, in the order of their places
unfoldable pub pending_paths : ℕ → List Record → List ℕ
pending_paths hour [] = []
pending_paths hour (r ∷ places) = cond (is_pending hour r) (r.key.path ∷ pending_paths hour places) (pending_paths hour places)

-- each of the first stands among the second
abbrev pub among : List ℕ → List ℕ → Bool
among xs ys = every (λ x. stands_in x ys) xs

abbrev pub is_empty : List ℕ → Bool
is_empty [] = true
is_empty (x ∷ xs) = false

-- 11 'when the hour has no pending bid or the paths aren't those pending'
unfoldable pub unmatched : ℕ → List ℕ → List Record → Bool
unmatched hour paths places =
    is_empty (pending_paths hour places) || not (among (pending_paths hour places) paths && among paths (pending_paths hour places))

unfoldable pub batch_rows : ℕ → List ℕ → List Record → List Row
batch_rows hour paths places = row 11 (unmatched hour paths places) ∷ []

-- ---- the batch

-- what a bid requires at its path's prices, by the library's answer
unfoldable pub closed_for : List ℕ → List ℤ → Record → ℤ
closed_for paths prices r = cents_of (closed_verdict r.intervals (quote_at (place_of r.key.path paths) prices))

-- 'the batch's summed requirement'
abbrev pub brings : ℕ → List ℕ → List ℤ → Record → ℤ
brings hour paths prices r = cond (is_pending hour r) (closed_for paths prices r) (pos 0)

unfoldable pub batch_cents : ℕ → List ℕ → List ℤ → List Record → ℤ
batch_cents hour paths prices places = total (brings hour paths prices) places

-- 'if held with the batch exceeds support'
abbrev pub exceeds : ℤ → ℤ → ℤ → Bool
exceeds support held cents = lt_z support (held +ℤ cents)

-- ---- what becomes of each place

-- 'It moves them to stage 2'
abbrev pub closed_record : Record → ℤ → Record
closed_record r cents = advanced r posted_stage r.schedule r.price cents

-- 'every one is removed', or moved; every other place stays
unfoldable pub batched : Bool → ℕ → List ℕ → List ℤ → Record → Record
batched too_much hour paths prices r = cond (is_pending hour r) (cond too_much blank (closed_record r (closed_for paths prices r))) r
