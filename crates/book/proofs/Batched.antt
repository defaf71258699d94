-- What a close does to the places of a book with distinct keys: they stay distinct, no two pending bids of an hour have one path, and what stands under each key (02, order 3).
-- Assumes nothing.
use mathlib.Core.Path.{◌≡◌, refl, sym, ap, ◌∙◌, subst}
use mathlib.Core.Bool.{Bool, true, false, not, cond, ◌||◌}
use mathlib.Core.List.{List, [], ◌∷◌, map}
use mathlib.Core.Option.{some}
use Prim.Native.Nat.{ℕ, ◌≤◌}
use native.Mathlib.Omega.{arith}
use lib.Dec.{eqb}
use lib.IntN.{ℤ}
use borrow.Author.Tests.{eqb-true}
use Rattle.amounts.specs.Lists.{sum}
use Rattle.amounts.proofs.Signed.{tested}
use Rattle.distinct.specs.Numbers.{stands_in}
use Rattle.refusals.proofs.Laws.{never, and_left, and_right, and_both}
use Rattle.closings.specs.Closings.{each_once}
use Rattle.records.specs.declared.types.Record.{Record}
use Rattle.records.specs.Records.{is_free, at, is_pending}
use Rattle.records.proofs.Places.{at_own}
use Rattle.batches.specs.Batches.{pending_paths, batched}
use Rattle.batches.proofs.Laws.{pending-is, batched-at}
use Rattle.book.specs.Places.{find, missing}
use Rattle.book.specs.Books.{distinct}
use Rattle.book.proofs.Places.{count, bit}
use Rattle.book.proofs.Distinct.{distinct-count, count-distinct}

-- ---- keys stay distinct
fewer-bits : (a b : Bool) → (a ≡ true → b ≡ true) → bit a ≤ bit b
fewer-bits true b h = subst (λ (c : Bool). 1 ≤ bit c) (sym (h refl)) (omega arith)
fewer-bits false b h = omega arith

count_map : {A : Type 0} (g : A → A) (p : A → Bool) → ((x : A) → p (g x) ≡ true → p x ≡ true) → (xs : List A) → count p (map g xs) ≤ count p xs
unfolding sum
count_map g p h [] = omega arith
count_map g p h (x ∷ xs) = omega (arith, fewer-bits (p (g x)) (p x) (h x), count_map g p h xs)

pub batched-distinct : (too_much : Bool) (hour : ℕ) (paths : List ℕ) (prices : List ℤ) (rs : List Record) → distinct rs ≡ true
    → distinct (map (batched too_much hour paths prices) rs) ≡ true
batched-distinct too_much hour paths prices rs d =
    count-distinct (map (batched too_much hour paths prices) rs)
    (λ k. omega (arith, distinct-count rs d k, count_map (batched too_much hour paths prices) (at k) (λ r h. batched-at hour paths prices k r too_much h) rs))

-- ---- no two pending bids of an hour have one path
module _ (hour : ℕ) where
  -- a pending bid's key is its kind, its path and the hour
  pending-key : (r s : Record) → is_pending hour r ≡ true → is_pending hour s ≡ true → r.key.path ≡ s.key.path → s.key ≡ r.key
  pending-key r s p q e =
      let a = pending-is hour r p in
      let b = pending-is hour s q in
      λ i. record { kind = (b.kind ∙ sym a.kind) i; path = sym e i; hour = (b.hour ∙ sym a.hour) i }

  unmet-by : (r s : Record) (rs : List Record) (b c : Bool) → is_pending hour r ≡ true → is_pending hour s ≡ b → at r.key s ≡ c → missing (cond c (some s) (find (at r.key) rs)) ≡ true
      → (missing (find (at r.key) rs) ≡ true → stands_in r.key.path (pending_paths hour rs) ≡ false)
      → stands_in r.key.path (cond b (s.key.path ∷ pending_paths hour rs) (pending_paths hour rs)) ≡ false
  unfolding stands_in missing
  unmet-by r s rs b true p q f m ih = never m
  unmet-by r s rs false false p q f m ih = ih m
  unmet-by r s rs true false p q f m ih =
      tested (eqb r.key.path s.key.path)
      (λ e. never (sym f ∙ at_own r.key s (pending-key r s p q (eqb-true r.key.path s.key.path e)) (pending-is hour s q).used))
      (λ e. rw e (ih m))

  -- a key that is open nowhere later has no pending bid there
  unmet : (r : Record) (rs : List Record) → is_pending hour r ≡ true → missing (find (at r.key) rs) ≡ true → stands_in r.key.path (pending_paths hour rs) ≡ false
  unfolding stands_in pending_paths find
  unmet r [] p m = refl
  unmet r (s ∷ rs) p m = unmet-by r s rs (is_pending hour s) (at r.key s) p refl refl m (unmet r rs p)

  alone : (a b : Bool) → a ≡ false → (a || b) ≡ true → b ≡ true
  alone true b e h = never (sym e)
  alone false b e h = h

  once_by : (r : Record) (rs : List Record) (b : Bool) → is_pending hour r ≡ b → (is_free r || missing (find (at r.key) rs)) ≡ true → each_once (pending_paths hour rs) ≡ true
      → each_once (cond b (r.key.path ∷ pending_paths hour rs) (pending_paths hour rs)) ≡ true
  unfolding each_once
  once_by r rs true p m o =
      and_both (not (stands_in r.key.path (pending_paths hour rs))) (each_once (pending_paths hour rs))
      (ap not (unmet r rs p (alone (is_free r) (missing (find (at r.key) rs)) (pending-is hour r p).used m))) o
  once_by r rs false p m o = o

  -- 'keys are distinct'
  pub pending-once : (rs : List Record) → distinct rs ≡ true → each_once (pending_paths hour rs) ≡ true
  unfolding distinct pending_paths each_once
  pending-once [] d = refl
  pending-once (r ∷ rs) d =
      let here = is_free r || missing (find (at r.key) rs) in
      once_by r rs (is_pending hour r) refl (and_left here (distinct rs) d) (pending-once rs (and_right here (distinct rs) d))
