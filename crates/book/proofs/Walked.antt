-- What the walk of `Book::apply` has seen of the places from i on, and in the end of all of them.
-- Assumes nothing.
use mathlib.Core.Path.{◌≡◌, sym, ap, ◌∙◌, subst}
use mathlib.Core.Bool.{true, false, ◌&&◌}
use mathlib.Core.List.{List, [], map}
use Prim.Native.Nat.{ℕ, ◌-◌, ◌<◌, ◌≤◌}
use native.Mathlib.Omega.{arith}
use lib.ListN.{length, drop, get_or, set, length-set, length-drop}
use lib.Seq.{drop-length}
use Rattle.amounts.specs.Lists.{sum, every}
use Rattle.keys.specs.declared.Key.{Key}
use Rattle.records.specs.declared.types.Record.{Record}
use Rattle.records.specs.Records.{blank, is_free, at, ok_place}
use Rattle.credit.specs.declared.types.Sums.{Sums}
use Rattle.credit.specs.Sums.{sums_of, with_record}
use Rattle.credit.specs.NoOverflow.{SumsWithin}
use Rattle.book.specs.Books.{Book, lookup}
use Rattle.walk.specs.Codes.{code_of}
use Rattle.walk.specs.declared.types.Walk.{Walk}
use Rattle.walk.specs.Walk.{nothing, more, standing, under}
use Rattle.walk.proofs.Sums.{sums-within, sums-back, every_back, every_drop}
use Rattle.book.proofs.Passed.{position, from, from-start, position_back, find-standing, set_back, mapped}
use Rattle.book.proofs.Codes.{code-blank}

-- all are in range; their sums, their keys' numbers, the lowest free place and the key's
pub record Walked (key : Key) (rs : List Record) (codes : List ℕ) (s : Walk) (i : ℕ) : Type 0 where
  pub count : length codes ≡ 256
  pub within : i ≤ 256
  pub ranged : every ok_place (drop i rs) ≡ true
  pub coded : (k : ℕ) → i ≤ k → k < length codes → get_or codes k 0 ≡ code_of (get_or rs k blank)
  pub sums : s.sums ≡ sums_of (drop i rs)
  pub free : s.free ≡ from i (position is_free (drop i rs))
  pub place : s.at ≡ from i (position (at key) (drop i rs))

-- no place is passed yet
pub begun : (key : Key) (rs : List Record) (codes : List ℕ) → length rs ≡ 256 → length codes ≡ 256 → Walked key rs codes nothing 256
unfolding every position sum
begun key rs codes few count =
    let none : [] ≡ drop 256 rs = sym (drop-length rs) ∙ ap (λ (n : ℕ). drop n rs) few in
    record {
      count = count;
      within = omega arith;
      ranged = ap (every ok_place) (sym none);
      coded = λ k from to. absurd (omega arith);
      sums = ap sums_of none;
      free = ap (λ (l : List Record). from 256 (position is_free l)) none;
      place = ap (λ (l : List Record). from 256 (position (at key) l)) none;
    }

-- no sum leaves an i64 on the way
pub light : (key : Key) (rs : List Record) (codes : List ℕ) (s : Walk) (i : ℕ) → length rs ≡ 256 → Walked key rs codes s i → SumsWithin 332800000000000 s.sums
light key rs codes s i few w =
    subst (SumsWithin 332800000000000) (sym w.sums) (sums-within (drop i rs) w.ranged (omega (arith, few, length-drop i rs)))

-- one place more
module _ (key : Key) (rs : List Record) (codes : List ℕ) (s : Walk) (i n : ℕ) (few : length rs ≡ 256) (h : 0 < i) (w : Walked key rs codes s i) (coded : n ≡ code_of (get_or rs (i - 1) blank)) where
  abbrev here : Record
  here = get_or rs (i - 1) blank

  size : length (set codes (i - 1) n) ≡ 256
  size = length-set codes (i - 1) n ∙ w.count

  le : i ≤ length rs
  le = omega (arith, w.within, few)

  all_of : every ok_place (drop (i - 1) rs) ≡ (ok_place here && every ok_place (drop i rs))
  all_of = every_back ok_place rs i blank h le

  -- or the book has a place out of range
  pub out_of_range : ok_place here ≡ false → every ok_place rs ≡ false
  out_of_range bad = every_drop ok_place rs (i - 1) (all_of ∙ rw bad)

  coded-more : (k : ℕ) → i - 1 ≤ k → k < length (set codes (i - 1) n) → get_or (set codes (i - 1) n) k 0 ≡ code_of (get_or rs k blank)
  coded-more k from to =
      set_back code_of blank rs codes i n h (omega (arith, w.within, w.count)) coded w.coded k from (omega (arith, to, length-set codes (i - 1) n))

  pub walked_more : ok_place here ≡ true → Walked key rs (set codes (i - 1) n) (more s here key (i - 1)) (i - 1)
  unfolding more
  walked_more fine =
      record {
        count = size;
        within = omega (arith, w.within);
        ranged = all_of ∙ rw (fine, w.ranged);
        coded = coded-more;
        sums = ap (λ (t : Sums). with_record t here) w.sums ∙ sums-back rs i h le;
        free = position_back is_free rs i blank h le s.free w.free;
        place = position_back (at key) rs i blank h le s.at w.place;
      }

-- every place is passed
module _ (b : Book) (key : Key) (codes : List ℕ) (s : Walk) (few : length b.records ≡ 256) (w : Walked key b.records codes s 0) where
  pub all-ranged : every ok_place b.records ≡ true
  all-ranged = w.ranged

  pub all_coded : codes ≡ map code_of b.records
  all_coded = mapped code_of blank b.records codes code-blank (w.count ∙ sym few) (λ k lt. w.coded k (omega arith) (omega (arith, w.count, few)))

  pub free-is : s.free ≡ position is_free b.records
  free-is = w.free ∙ from-start (position is_free b.records)

  pub place_is : s.at ≡ position (at key) b.records
  place_is = w.place ∙ from-start (position (at key) b.records)

  pub summed : s.sums ≡ sums_of b.records
  summed = w.sums

  -- the record under the key is what stands at its place, if it has one
  pub looked-up : under s b.records ≡ lookup b key
  unfolding lookup
  looked-up = ap (standing b.records) place_is ∙ sym (find-standing (at key) b.records)
