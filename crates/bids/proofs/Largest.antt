-- `exposure`, which tries the bid prices alone, is the largest over every price, and no other number is: from one price to the next the MWh change only where a point stands.
-- Assumes nothing.
use mathlib.Core.Path.{◌≡◌, refl, sym, ap, subst, ◌∙◌}
use mathlib.Core.Bool.{Bool, true, false}
use mathlib.Core.Logic.{◌⊎◌, inl, inr, ⊎_elim}
use mathlib.Core.List.{List, [], ◌∷◌}
use Prim.Native.Nat.{ℕ, zero, suc, ◌+◌, ◌*◌, ◌≤◌, ◌<◌, max, zero-le}
use native.Mathlib.Nat.{le_trans, le_antisymm, le-max_left, le-max_right, mul-le-mul_right, zero-mul, mul-zero, max-eq_left, max-eq_right, le_of_lt, le-suc, eq-or-lt_of_le}
use native.Mathlib.Omega.{arith}
use lib.IntN.{ℤ, pos, negsuc}
use lib.Signed.{le_z}
use lib.Dec.{ltb}
use borrow.Author.Tests.{le-leb, lt-leb, leb-true, ltb-true, ltb-false}
use Rattle.amounts.specs.Amount.{up}
use Rattle.amounts.specs.Lists.{every}
use Rattle.refusals.specs.declared.Refusal.{Refusal}
use Rattle.refusals.specs.Refusals.{number_of, Row, None, First}
use Rattle.std.specs.Prelude.{Result, Ok, Err}
use Rattle.refusals.proofs.Laws.{number-one, never, and_left, and_right, first-is}
use Rattle.bids.specs.Points.{Point, mwh_at, Exposure, tried, exposure}
use Rattle.bids.specs.Rows.{point_rows}
use Rattle.bids.specs.Entries.{Exposed}

-- the highest price, 0 where none is above
top : List Point → ℕ
top [] = 0
top (q ∷ qs) = max (up q.price) (top qs)

-- above a price no point is left
priced-out : (p : ℕ) (z : ℤ) → up z < p → le_z (pos p) z ≡ false
priced-out p (pos n) h = lt-leb p n h
priced-out p (negsuc n) h = refl

none_above : (p : ℕ) (l : List Point) → top l < p → mwh_at p l ≡ 0
unfolding mwh_at top
none_above p [] h = refl
none_above p (q ∷ qs) h =
    let i : mwh_at p qs ≡ 0 = none_above p qs (omega arith) in
    rw (priced-out p q.price (omega arith), i)

apart_by : (n p : ℕ) (b : Bool) → ltb n p ≡ b → (n < p) ⊎ (p ≤ n)
apart_by n p true e = inl (ltb-true n p e)
apart_by n p false e = inr (ltb-false n p e)

-- two numbers, by cases. (`le_total` answers under a truncation, which `⊎_elim` does not take.)
pub apart : (n p : ℕ) → (n < p) ⊎ (p ≤ n)
apart n p = apart_by n p (ltb n p) refl

-- a price p is the point's own, or the point stands on the same side of p and of the next price. (At p = 0 a point below 0 is both.)
Side : ℕ → ℤ → Type 0
Side p z = (up z ≡ p) ⊎ (le_z (pos p) z ≡ le_z (pos (suc p)) z)

side : (p : ℕ) (z : ℤ) → Side p z
unfolding Side
side p (pos n) =
    ⊎_elim (λ (h : n < p). inr (rw (lt-leb p n h, lt-leb (suc p) n (omega arith))))
    (λ (h : p ≤ n).
    ⊎_elim (λ (e : p ≡ n). inl (sym e)) (λ (g : p < n). inr (rw (le-leb p n h, le-leb (suc p) n g))) (eq-or-lt_of_le h))
    (apart n p)
side p (negsuc n) = inr refl

-- at a price p, the points qs of l: p x MWh is among what is tried, or no point of qs stands at p
Next : ℕ → List Point → List Point → Type 0
Next p l qs = (p * mwh_at p l ≤ tried l qs) ⊎ (mwh_at p qs ≡ mwh_at (suc p) qs)

next : (p : ℕ) (l qs : List Point) → Next p l qs
unfolding Next Side tried mwh_at
next p l [] = inr refl
next p l (q ∷ qs) =
    ⊎_elim (λ (e : up q.price ≡ p). inl (subst (λ (k : ℕ). k * mwh_at k l ≤ tried l (q ∷ qs)) e (le-max_left _ _)))
    (λ (s : le_z (pos p) q.price ≡ le_z (pos (suc p)) q.price).
    ⊎_elim (λ (h : p * mwh_at p l ≤ tried l qs). inl (le_trans h (le-max_right _ _)))
    (λ (e : mwh_at p qs ≡ mwh_at (suc p) qs). inr (rw (s, e)))
    (next p l qs))
    (side p q.price)

-- from any price up: k is how far it is to a price above all
below : (k p : ℕ) (l : List Point) → top l < p + k → p * mwh_at p l ≤ tried l l
unfolding Next
below zero p l h = rw (none_above p l (omega arith), mul-zero) zero-le
below (suc k) p l h =
    ⊎_elim (λ (b : p * mwh_at p l ≤ tried l l). b)
    (λ (e : mwh_at p l ≡ mwh_at (suc p) l).
    rw e (le_trans (mul-le-mul_right (mwh_at (suc p) l) (le-suc p)) (below k (suc p) l (omega arith))))
    (next p l l)

-- what is tried is met at some price
reached : (l qs : List Point) → (p : ℕ) × (p * mwh_at p l ≡ tried l qs)
unfolding tried
reached l [] = (0, zero-mul _)
reached l (q ∷ qs) =
    let p = up q.price in
    ⊎_elim (λ (h : p * mwh_at p l < tried l qs). ((reached l qs).0, (reached l qs).1 ∙ sym (max-eq_right (le_of_lt h))))
    (λ (h : tried l qs ≤ p * mwh_at p l). (p, sym (max-eq_left h)))
    (apart (p * mwh_at p l) (tried l qs))

pub exposure-is : (l : List Point) → Exposure l (exposure l)
unfolding exposure
exposure-is l = record { above = λ p. below (suc (top l)) p l (omega arith); met = reached l l }

-- a number that is the largest is the largest
pub exposure-one : {l : List Point} {d e : ℕ} → Exposure l d → Exposure l e → d ≡ e
exposure-one {d = d} {e = e} x y =
    le_antisymm (subst (λ (k : ℕ). k ≤ e) x.met.1 (y.above x.met.0)) (subst (λ (k : ℕ). k ≤ d) y.met.1 (x.above y.met.0))

pub exposure-only : {l : List Point} {e : ℕ} → Exposure l e → e ≡ exposure l
exposure-only {l} x = exposure-one x (exposure-is l)

-- 01, Export: 'it is 0 when no point is priced above 0'
abbrev not_above : Point → Bool
not_above q = le_z q.price (pos 0)

free : (z : ℤ) → le_z z (pos 0) ≡ true → up z ≡ 0
free (pos n) e = let h : n ≤ 0 = leb-true n 0 e in omega arith
free (negsuc n) e = refl

tried-none : (l qs : List Point) → every not_above qs ≡ true → tried l qs ≡ 0
unfolding tried every
tried-none l [] h = refl
tried-none l (q ∷ qs) h =
    let z : up q.price ≡ 0 = free q.price (and_left (not_above q) (every not_above qs) h) in
    let i : tried l qs ≡ 0 = tried-none l qs (and_right (not_above q) (every not_above qs) h) in
    rw (i, z, zero-mul)

pub exposure-none : (l : List Point) → every (λ (q : Point). le_z q.price (pos 0)) l ≡ true → exposure l ≡ 0
unfolding exposure
exposure-none l h = tried-none l l h

-- no row applies, or one is the first that does, and never both
not-both : (n : ℕ) (rs : List Row) → First n rs → None rs → ⊥
unfolding First None
not-both n [] f h = f
not-both n (r ∷ rs) f h = ⊎_elim (λ a. never (sym h.0 ∙ a.0)) (λ a. not-both n rs a.1 h.1) f

-- any two answers that `price_exposure`'s statement allows are one
pub exposed-one : (ms : List ℕ) (ps : List ℤ) {r r' : Result ℤ Refusal} → Exposed ms ps r → Exposed ms ps r' → r ≡ r'
unfolding Exposed
exposed-one ms ps {r = Err e} {r' = Err e'} x y = ap Err (number-one e e' (sym (first-is (number_of e) (point_rows ms ps) x) ∙ first-is (number_of e') (point_rows ms ps) y))
exposed-one ms ps {r = Err e} {r' = Ok z} x y = absurd (not-both (number_of e) (point_rows ms ps) x y.0)
exposed-one ms ps {r = Ok z} {r' = Err e} x y = absurd (not-both (number_of e) (point_rows ms ps) y x.0)
exposed-one ms ps {r = Ok z} {r' = Ok z'} x y = ap Ok (x.1.1 ∙ ap pos (exposure-one x.1.2 y.1.2) ∙ sym y.1.1)
