-- Free places by count: a book with as many places and no more records than one that has room has room too.
-- Assumes nothing.
use mathlib.Core.Path.{◌≡◌, refl, sym, ◌∙◌}
use mathlib.Core.Bool.{Bool, true, false, not}
use mathlib.Core.List.{List, [], ◌∷◌}
use mathlib.Core.Option.{Option, none, some}
use Prim.Native.Nat.{ℕ, zero, suc, ◌+◌, ◌≤◌}
use native.Mathlib.Omega.{arith}
use lib.ListN.{length}
use Rattle.amounts.specs.Lists.{sum}
use Rattle.refusals.proofs.Laws.{never}
use Rattle.records.specs.declared.types.Record.{Record}
use Rattle.records.specs.Records.{is_free}
use Rattle.book.specs.declared.types.Book.{Book}
use Rattle.book.specs.Books.{full}
use Rattle.book.specs.Places.{find, missing}
use Rattle.book.proofs.Places.{count, bit, none≢some, find-count, count-find}

bits : (b : Bool) → bit b + bit (not b) ≡ 1
bits true = refl
bits false = refl

-- each place passes a test or fails it
count-split : {A : Type 0} (p : A → Bool) (xs : List A) → count p xs + count (λ x. not (p x)) xs ≡ length xs
unfolding sum
count-split p [] = refl
count-split p (x ∷ xs) = omega (arith, count-split p xs, bits (p x))

some-count : (p : Record → Bool) (xs : List Record) (o : Option Record) → find p xs ≡ o → missing o ≡ false → (n : ℕ) → count p xs ≡ n → 1 ≤ n
unfolding missing
some-count p xs none e h n c = never (sym h)
some-count p xs (some x) e h zero c = none≢some x (sym (count-find p xs c) ∙ e)
some-count p xs (some x) e h (suc n) c = omega arith

room-count : (b : Book) → full b ≡ false → 1 ≤ count is_free b.records
unfolding full
room-count b h = some-count is_free b.records (find is_free b.records) refl h (count is_free b.records) refl

count-some : (p : Record → Bool) (xs : List Record) (o : Option Record) → find p xs ≡ o → 1 ≤ count p xs → missing o ≡ false
unfolding missing
count-some p xs none e h = absurd (omega (arith, find-count p xs e))
count-some p xs (some x) e h = refl

count_room : (b : Book) → 1 ≤ count is_free b.records → full b ≡ false
unfolding full
count_room b h = count-some is_free b.records (find is_free b.records) refl h

-- an open record
abbrev pub is_used : Record → Bool
is_used r = not (is_free r)

pub room-kept : (b c : Book) → length c.records ≡ length b.records → count is_used c.records ≤ count is_used b.records → full b ≡ false → full c ≡ false
room-kept b c e h room =
    count_room c (omega (arith, room-count b room, count-split is_free b.records, count-split is_free c.records))
