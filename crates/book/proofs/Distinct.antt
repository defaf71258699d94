-- Distinct keys: each key is counted at most once.
-- Assumes nothing.
use mathlib.Core.Path.{◌≡◌, refl, ap}
use mathlib.Core.Bool.{Bool, true, false, ◌||◌}
use mathlib.Core.List.{List, [], ◌∷◌}
use mathlib.Core.Option.{Option, none, some}
use Prim.Native.Nat.{◌+◌, ◌≤◌, zero-le}
use native.Mathlib.Omega.{arith}
use Rattle.amounts.specs.Lists.{sum}
use Rattle.refusals.proofs.Laws.{and_left, and_right, and_both, never}
use Rattle.keys.specs.declared.Key.{Key}
use Rattle.records.specs.declared.types.Record.{Record}
use Rattle.records.specs.Records.{is_free, at}
use Rattle.records.proofs.Places.{at_key, at-used, at_own}
use Rattle.book.specs.Places.{find, missing}
use Rattle.book.specs.Books.{distinct}
use Rattle.book.proofs.Places.{count, bit, find-count, count-find}

pub missing-none : {A : Type 0} (o : Option A) → missing o ≡ true → o ≡ none
unfolding missing
missing-none none h = refl
missing-none (some r) h = never h

alone-missing : (b m : Bool) → b ≡ false → (b || m) ≡ true → m ≡ true
alone-missing b m e h = rw e at h

distinct-count-at : (k : Key) (r : Record) (rs : List Record) (b : Bool) → at k r ≡ b → (is_free r || missing (find (at r.key) rs)) ≡ true
    → count (at k) rs ≤ 1 → bit b + count (at k) rs ≤ 1
distinct-count-at k r rs false e h ih = omega arith
distinct-count-at k r rs true e h ih =
    let m = alone-missing (is_free r) (missing (find (at r.key) rs)) (at-used k r e) h in
    let z = find-count (at k) rs (rw (at_key k r e) (missing-none (find (at r.key) rs) m)) in
    omega arith

pub distinct-count : (rs : List Record) → distinct rs ≡ true → (k : Key) → count (at k) rs ≤ 1
unfolding distinct sum
distinct-count [] h k = zero-le
distinct-count (r ∷ rs) h k =
    let first = is_free r || missing (find (at r.key) rs) in
    distinct-count-at k r rs (at k r) refl (and_left first (distinct rs) h) (distinct-count rs (and_right first (distinct rs) h) k)

count-distinct-at : (r : Record) (rs : List Record) (b : Bool) → is_free r ≡ b → ((k : Key) → bit (at k r) + count (at k) rs ≤ 1)
    → (b || missing (find (at r.key) rs)) ≡ true
unfolding missing
count-distinct-at r rs true e h = refl
count-distinct-at r rs false e h =
    let one = ap bit (at_own r.key r refl e) in
    ap missing (count-find (at r.key) rs (omega (arith, h r.key)))

pub count-distinct : (rs : List Record) → ((k : Key) → count (at k) rs ≤ 1) → distinct rs ≡ true
unfolding distinct sum
count-distinct [] h = refl
count-distinct (r ∷ rs) h =
    and_both (is_free r || missing (find (at r.key) rs)) (distinct rs) (count-distinct-at r rs (is_free r) refl h) (count-distinct rs (λ k. omega (arith, h k)))
