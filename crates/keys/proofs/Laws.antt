-- Keys that are the same, and the bounds of a key in range.
-- Assumes nothing.
use mathlib.Core.Path.{◌≡◌, refl, sym}
use mathlib.Core.Bool.{Bool, true, false, ◌&&◌}
use Prim.Native.Nat.{◌≤◌}
use lib.Dec.{leb, eqb}
use native.Mathlib.Omega.{arith}
use borrow.Author.Tests.{leb-true, eqb-true, eq-eqb}
use Rattle.amounts.specs.Limits.{between}
use Rattle.refusals.proofs.Laws.{and_left, and_right}
use Rattle.kinds.specs.declared.Rules.{Rules}
use Rattle.kinds.specs.Kinds.{import, last_kind, is_kind, is_path, rules_of}
use Rattle.kinds.proofs.ByKind.{by-rules}
use Rattle.keys.specs.Keys.{Key, same_key, is_hour, key_fits}

-- ---- keys
pub same_key-eq : (k l : Key) → same_key k l ≡ true → k ≡ l
unfolding same_key
same_key-eq k l h =
    let kind = eqb k.kind l.kind in let path = eqb k.path l.path in let hour = eqb k.hour l.hour in
    let both = and_left (kind && path) hour h in
    let a = eqb-true k.kind l.kind (and_left kind path both) in
    let b = eqb-true k.path l.path (and_right kind path both) in
    let c = eqb-true k.hour l.hour (and_right (kind && path) hour h) in
    λ i. record { kind = a i; path = b i; hour = c i }

pub same_key-refl : (k : Key) → same_key k k ≡ true
unfolding same_key
same_key-refl k = rw (eq-eqb k.kind k.kind refl, eq-eqb k.path k.path refl, eq-eqb k.hour k.hour refl)

pub by-test : (a b : Bool) → (a ≡ true → b ≡ true) → (b ≡ true → a ≡ true) → a ≡ b
by-test true b f g = sym (f refl)
by-test false true f g = g refl
by-test false false f g = refl

pub same_key-sym : (k l : Key) → same_key k l ≡ same_key l k
same_key-sym k l =
    by-test (same_key k l) (same_key l k) (λ h. rw (same_key-eq k l h) (same_key-refl l)) (λ h. rw (same_key-eq l k h) (same_key-refl k))

-- ---- a key in range
pub record KeyBounds (k : Key) : Type 0 where
  pub kind-low : import ≤ k.kind
  pub kind-high : k.kind ≤ last_kind
  pub path-high : k.path ≤ 999
  pub hour-high : k.hour ≤ 999999

module _ (k : Key) (h : key_fits k ≡ true) where
  abbrev kind_fits : Bool
  kind_fits = is_kind k.kind

  abbrev path-fits : Bool
  path-fits = is_path (rules_of k.kind) k.path

  pub key-kind : is_kind k.kind ≡ true
  key-kind = and_left kind_fits path-fits (and_left (kind_fits && path-fits) (is_hour k.hour) h)

  -- no kind's paths go further
  path-most : is_path (rules_of k.kind) k.path ≡ true → k.path ≤ 999
  path-most =
      let below : between 1 999 k.path ≡ true → k.path ≤ 999 = λ e. leb-true k.path 999 (and_right (leb 1 k.path) (leb k.path 999) e) in
      by-rules k.kind (λ (rules : Rules). is_path rules k.path ≡ true → k.path ≤ 999) key-kind (λ e. below) (λ e. below) (λ e. below) (λ e. below)
      (λ e. below)
      (λ e h. omega (arith, leb-true k.path 11 (and_right (leb 1 k.path) (leb k.path 11) h)))

  pub key-bounds : KeyBounds k
  key-bounds =
      let kind = key-kind in
      record {
        kind-low = leb-true import k.kind (and_left (leb import k.kind) (leb k.kind last_kind) kind);
        kind-high = leb-true k.kind last_kind (and_right (leb import k.kind) (leb k.kind last_kind) kind);
        path-high = path-most (and_right kind_fits path-fits (and_left (kind_fits && path-fits) (is_hour k.hour) h));
        hour-high = leb-true k.hour 999999 (and_right (kind_fits && path-fits) (is_hour k.hour) h);
      }
