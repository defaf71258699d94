-- Keys in range are distinct exactly where their numbers stand apart.
-- Assumes nothing.
use mathlib.Core.Path.{◌≡◌, refl, sym, ap, ◌∙◌}
use mathlib.Core.Bool.{Bool, true, false, ◌&&◌, ◌||◌, not, cond}
use mathlib.Core.List.{List, [], ◌∷◌, map}
use mathlib.Core.Option.{some}
use mathlib.Core.Logic.{◌⊎◌, inl, inr, ⊎_elim}
use Prim.Native.Nat.{ℕ, ◌+◌, ◌*◌, ◌≤◌}
use native.Mathlib.Omega.{arith}
use lib.Dec.{eqb}
use borrow.Author.Tests.{eqb-true, eqb-false, ne_eqb}
use Rattle.amounts.specs.Limits.{is_support}
use Rattle.amounts.specs.Lists.{every}
use Rattle.refusals.proofs.Laws.{and_left, and_right, and_none, never}
use Rattle.kinds.specs.Kinds.{last_kind}
use Rattle.keys.specs.declared.Key.{Key}
use Rattle.keys.specs.Keys.{same_key, key_fits}
use Rattle.records.specs.declared.types.Record.{Record}
use Rattle.records.specs.Records.{blank, is_free, at, ok_place}
use Rattle.keys.proofs.Laws.{key-bounds, same_key-eq, same_key-refl}
use Rattle.records.proofs.Places.{free-blank, at-blank, place-free, place-used}
use Rattle.records.proofs.Clauses.{clauses}
use Rattle.distinct.specs.Numbers.{stands_in, all_distinct}
use Rattle.book.specs.Places.{find, missing}
use Rattle.credit.specs.Account.{keeps_totals}
use Rattle.book.specs.Books.{Book, distinct, sound, sound_by01, held, owed}
use Rattle.walk.specs.Codes.{code_of}

pub code-blank : code_of blank ≡ 0
unfolding code_of is_free
code-blank = refl

-- an open record's key is in range, and its number is the key's parts side by side
pub record Ranges (r : Record) : Type 0 where
  pub used : is_free r ≡ false
  pub kind-low : 1 ≤ r.key.kind
  pub kind-high : r.key.kind ≤ last_kind
  pub path-high : r.key.path ≤ 999
  pub hour-high : r.key.hour ≤ 999999
  pub code : code_of r ≡ r.key.kind * 1073741824 + r.key.path * 1048576 + r.key.hour

ranges : (r : Record) → is_free r ≡ false → key_fits r.key ≡ true → Ranges r
unfolding code_of
ranges r used h =
    let b = key-bounds r.key h in
    record {
      used = used;
      kind-low = b.kind-low;
      kind-high = b.kind-high;
      path-high = b.path-high;
      hour-high = b.hour-high;
      code = rw used (omega arith);
    }

-- a sound place is free, or its key is in range
free_or : (r : Record) → ok_place r ≡ true → (r ≡ blank) ⊎ Ranges r
free_or r h = by (is_free r) refl
  where
    by : (b : Bool) → is_free r ≡ b → (r ≡ blank) ⊎ Ranges r
    by true e = inl (place-free r h e)
    by false e = inr (ranges r e (clauses r (place-used r h e)).key)

-- ---- two sound places have one key exactly where their numbers are equal

code-used : (r : Record) → Ranges r → code_of r ≡ 0 → ⊥
code-used r k e = omega arith

code-key : (r s : Record) → Ranges r → Ranges s → code_of r ≡ code_of s → r.key ≡ s.key
code-key r s k l e =
    let kind : r.key.kind ≡ s.key.kind = omega arith in
    let path : r.key.path ≡ s.key.path = omega arith in
    let hour : r.key.hour ≡ s.key.hour = omega arith in
    λ i. record { kind = kind i; path = path i; hour = hour i }

-- a used place's number stands at a place exactly where its key does
pub at_code : (r s : Record) → Ranges r → ok_place s ≡ true → at r.key s ≡ eqb (code_of r) (code_of s)
unfolding at
at_code r s k h = ⊎_elim blank-there (λ l. by (same_key r.key s.key) (eqb (code_of r) (code_of s)) refl refl l) (free_or s h)
  where
    blank-there : s ≡ blank → (not (is_free s) && same_key r.key s.key) ≡ eqb (code_of r) (code_of s)
    blank-there e =
        ap (at r.key) e ∙ at-blank r.key ∙ sym (ne_eqb (code_of r) 0 (code-used r k)) ∙ ap (eqb (code_of r)) (sym (ap code_of e ∙ code-blank))

    by : (a b : Bool) → same_key r.key s.key ≡ a → eqb (code_of r) (code_of s) ≡ b → Ranges s → (not (is_free s) && same_key r.key s.key) ≡ eqb (code_of r) (code_of s)
    by true true e f l = rw (l.used, e, f)
    by false false e f l = rw (l.used, e, f)
    by true false e f l = absurd (eqb-false (code_of r) (code_of s) f (k.code ∙ ap (λ (k : Key). k.kind * 1073741824 + k.path * 1048576 + k.hour) (same_key-eq r.key s.key e) ∙ sym l.code))
    by false true e f l = never (sym e ∙ ap (λ (k : Key). same_key r.key k) (sym (code-key r s k l (eqb-true (code_of r) (code_of s) f))) ∙ same_key-refl r.key)

-- nothing is found under the key exactly where the number does not stand in the list
missing-code : (r : Record) (rs : List Record) → Ranges r → every ok_place rs ≡ true → missing (find (at r.key) rs) ≡ not (stands_in (code_of r) (map code_of rs))
unfolding find missing stands_in every
missing-code r [] k h = refl
missing-code r (s ∷ rs) k h =
    by (at r.key s) (at_code r s k (and_left (ok_place s) (every ok_place rs) h)) (missing-code r rs k (and_right (ok_place s) (every ok_place rs) h))
  where
    by : (b : Bool) → b ≡ eqb (code_of r) (code_of s) → missing (find (at r.key) rs) ≡ not (stands_in (code_of r) (map code_of rs))
        → missing (cond b (some s) (find (at r.key) rs)) ≡ not (eqb (code_of r) (code_of s) || stands_in (code_of r) (map code_of rs))
    by true e ih = rw (← e)
    by false e ih = rw (← e) ih

-- keys are distinct exactly where their numbers stand apart
pub distinct-numbers : (rs : List Record) → every ok_place rs ≡ true → distinct rs ≡ all_distinct (map code_of rs)
unfolding distinct all_distinct every
distinct-numbers [] h = refl
distinct-numbers (r ∷ rs) h =
    let here = and_left (ok_place r) (every ok_place rs) h in
    let rest = and_right (ok_place r) (every ok_place rs) h in
    ap (λ (b : Bool). (is_free r || missing (find (at r.key) rs)) && b) (distinct-numbers rs rest)
    ∙ ap (λ (b : Bool). b && all_distinct (map code_of rs)) (⊎_elim (λ e. free e) (λ k. used k rest) (free_or r here))
  where
    free : r ≡ blank → (is_free r || missing (find (at r.key) rs)) ≡ (eqb (code_of r) 0 || not (stands_in (code_of r) (map code_of rs)))
    free e = rw (ap code_of e ∙ code-blank, ap is_free e ∙ free-blank)

    used : Ranges r → every ok_place rs ≡ true → (is_free r || missing (find (at r.key) rs)) ≡ (eqb (code_of r) 0 || not (stands_in (code_of r) (map code_of rs)))
    used k ok = rw (k.used, ne_eqb (code_of r) 0 (code-used r k)) (missing-code r rs k ok)

-- ---- the parts of soundness, the places tested first
and-middle : (a b c : Bool) → b ≡ true → (a && b && c) ≡ (a && c)
and-middle true b c e = rw e
and-middle false b c e = refl

-- once its places are in range, a book is sound by the test of its support, that of its keys' numbers and that of its totals
pub sound-by : (b : Book) (kept : Bool) (codes : List ℕ) → every ok_place b.records ≡ true → codes ≡ map code_of b.records → kept ≡ keeps_totals b.account (held b) (owed b)
    → (is_support b.account.support && all_distinct codes && kept) ≡ sound b
unfolding sound sound_by01
sound-by b kept codes e f g =
    λ i. (ap (λ (x : Bool). is_support b.account.support && x) (ap all_distinct f ∙ sym (distinct-numbers b.records e))
    ∙ sym (and-middle (is_support b.account.support) (every ok_place b.records) (distinct b.records) e)) i && g i

pub unsound-by : (b : Book) → every ok_place b.records ≡ false → sound b ≡ false
unfolding sound sound_by01
unsound-by b e = ap (λ (x : Bool). x && keeps_totals b.account (held b) (owed b)) (and_none (is_support b.account.support) (every ok_place b.records) (distinct b.records) e)
