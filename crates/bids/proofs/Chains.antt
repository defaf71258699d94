-- What the code takes from the points by a chain over one of the lists, or over pairs of MWh and price: the same as the definitions take from the curve.
-- Assumes nothing.
use mathlib.Core.Path.{◌≡◌, refl, sym, ap, ◌∙◌}
use mathlib.Core.List.{List, [], ◌∷◌, map}
use mathlib.Core.Bool.{Bool, true}
use Prim.Native.Nat.{ℕ, zero, suc, ◌+◌, ◌*◌, ◌<◌, max}
use native.Mathlib.Nat.{zero-add}
use native.Mathlib.Omega.{arith}
use lib.IntN.{ℤ, pos, neg_ℤ, ◌*ℤ◌}
use lib.ListN.{length, get_or}
use Rattle.std.specs.declared.iter.Zip.{Zip}
use Rattle.std.proofs.Common.{Iter}
use Rattle.std.specs.Iterator.Adapters.{zip_first, zip_second}
use Rattle.std.specs.Slice.Iter.{iter_rest}
use Rattle.std.proofs.iter.Yields.{fronts}
use Rattle.std.proofs.lemmas.Slice.Zip.{length-zip, get_or-zip, firsts-zip}
use Rattle.std.proofs.lemmas.Iterator.{YieldsList, YieldsList-from_slice, YieldsList-from_zip, zips}
use Rattle.std.specs.List.{zip, fold, reduce, sum, sum_by}
use Rattle.std.specs.Option.{unwrap_or}
use Rattle.amounts.specs.Amount.{up, down, max_of}
use Rattle.amounts.specs.Lists.{every}
use Rattle.amounts.proofs.Signed.{signed, larger-of}
use Rattle.refusals.proofs.Laws.{and_left, and_right}
use Rattle.bids.specs.Points.{Point, curve, largest_mwh, total_mwh, share, mwh_at, tried, wheel_exposure}

abbrev pub point_of : ℕ × ℤ → Point
point_of z = record { mwh = z.0; price = z.1 }

-- the pairs that `zip` gives
pub pairs : {s : Zip (Iter ℕ) (Iter ℤ)} (ms : List ℕ) (ps : List ℤ) → iter_rest (zip_first s) ≡ ms → iter_rest (zip_second s) ≡ ps → YieldsList {B = ℕ × ℤ} (zips fronts fronts) (λ p. (p.0.now, p.1.now)) s (zip ms ps)
pairs ms ps e f = YieldsList-from_zip (YieldsList-from_slice ms e) (YieldsList-from_slice ps f)

-- what is at a place of a list passes a test that each element passes
pub every-here : {A : Type 0} (p : A → Bool) (x : A) (xs : List A) → every p xs ≡ true → (k : ℕ) → k < length xs → x ≡ get_or xs k x → p x ≡ true
unfolding every
every-here p x [] e k lt h = absurd (omega arith)
every-here p x (y ∷ ys) e zero lt h = ap p h ∙ and_left (p y) (every p ys) e
every-here p x (y ∷ ys) e (suc k) lt h = every-here p x ys (and_right (p y) (every p ys) e) k (omega arith) h

pub every-zip : {A B : Type 0} (p : A → Bool) (r : B → Bool) (z : A × B) (xs : List A) (ys : List B) → every p xs ≡ true → every r ys ≡ true → (k : ℕ) → k < length (zip xs ys) → z ≡ get_or (zip xs ys) k z → (p z.0 ≡ true) × (r z.1 ≡ true)
every-zip p r z xs ys f g k lt e =
    let long = length-zip xs ys in
    let is = e ∙ get_or-zip xs ys k z (omega arith) (omega arith) in
    (every-here p z.0 xs f k (omega arith) (ap (λ u. u.0) is), every-here r z.1 ys g k (omega arith) (ap (λ u. u.1) is))

-- a sum over the points
module _ (F : List Point → ℕ) (f : Point → ℕ) (none : F [] ≡ 0) (step : (q : Point) (qs : List Point) → F (q ∷ qs) ≡ f q + F qs) where
  added : (a : ℕ) (ms : List ℕ) (ps : List ℤ) → fold (λ (n : ℕ) (z : ℕ × ℤ). n + f (point_of z)) a (zip ms ps) ≡ a + F (curve ms ps)
  added a [] ps = omega (arith, none)
  added a (m ∷ ms) [] = omega (arith, none)
  added a (m ∷ ms) (p ∷ ps) = omega (arith, added (a + f (point_of (m, p))) ms ps, step (point_of (m, p)) (curve ms ps))

  pub sum_zip : (ms : List ℕ) (ps : List ℤ) → sum_by (λ (z : ℕ × ℤ). f (point_of z)) (zip ms ps) ≡ F (curve ms ps)
  sum_zip ms ps = added 0 ms ps ∙ zero-add (F (curve ms ps))

-- the largest over the points
module _ (F : List Point → ℕ) (f : Point → ℕ) (none : F [] ≡ 0) (step : (q : Point) (qs : List Point) → F (q ∷ qs) ≡ max (f q) (F qs)) where
  most : (a : ℕ) (ms : List ℕ) (ps : List ℤ) → fold max a (map (λ (z : ℕ × ℤ). f (point_of z)) (zip ms ps)) ≡ max a (F (curve ms ps))
  most a [] ps = omega (arith, none)
  most a (m ∷ ms) [] = omega (arith, none)
  most a (m ∷ ms) (p ∷ ps) = omega (arith, most (max a (f (point_of (m, p)))) ms ps, step (point_of (m, p)) (curve ms ps))

  pub max_zip : (ms : List ℕ) (ps : List ℤ) → unwrap_or (reduce max (map (λ (z : ℕ × ℤ). f (point_of z)) (zip ms ps))) 0 ≡ F (curve ms ps)
  max_zip [] ps = sym none
  max_zip (m ∷ ms) [] = sym none
  max_zip (m ∷ ms) (p ∷ ps) = most (f (point_of (m, p))) ms ps ∙ sym (step (point_of (m, p)) (curve ms ps))

total-from : (n : ℕ) (ms : List ℕ) (ps : List ℤ) → length ms ≡ length ps → fold (λ (a m : ℕ). a + m) n ms ≡ n + total_mwh (curve ms ps)
unfolding total_mwh
total-from n [] [] e = omega arith
total-from n [] (p ∷ ps) e = absurd (omega arith)
total-from n (m ∷ ms) [] e = absurd (omega arith)
total-from n (m ∷ ms) (p ∷ ps) e = omega (arith, total-from (n + m) ms ps (omega arith))

pub total-list : (ms : List ℕ) (ps : List ℤ) → length ms ≡ length ps → sum ms ≡ total_mwh (curve ms ps)
total-list ms ps e = omega (arith, total-from 0 ms ps e)

pub mwh_at-zip : (p : ℕ) (ms : List ℕ) (ps : List ℤ) → sum_by (λ (z : ℕ × ℤ). share p (point_of z)) (zip ms ps) ≡ mwh_at p (curve ms ps)
unfolding mwh_at
mwh_at-zip p = sum_zip (mwh_at p) (share p) refl (λ q qs. refl)

largest-zip : (ms : List ℕ) (ps : List ℤ) → unwrap_or (reduce max (map (λ (z : ℕ × ℤ). z.0) (zip ms ps))) 0 ≡ largest_mwh (curve ms ps)
unfolding largest_mwh
largest-zip = max_zip largest_mwh (λ (q : Point). q.mwh) refl (λ q qs. refl)

pub largest-list : (ms : List ℕ) (ps : List ℤ) → length ms ≡ length ps → unwrap_or (reduce max ms) 0 ≡ largest_mwh (curve ms ps)
largest-list ms ps e = ap (λ (ns : List ℕ). unwrap_or (reduce max ns) 0) (sym (firsts-zip ms ps (sym e))) ∙ largest-zip ms ps

tried-zip : (l : List Point) (ms : List ℕ) (ps : List ℤ) → unwrap_or (reduce max (map (λ (z : ℕ × ℤ). up z.1 * mwh_at (up z.1) l) (zip ms ps))) 0 ≡ tried l (curve ms ps)
unfolding tried
tried-zip l = max_zip (tried l) (λ (q : Point). up q.price * mwh_at (up q.price) l) refl (λ q qs. refl)

-- of two lists of one length the prices are the curve's
seconds : {A : Type 0} (f : ℤ → A) (ms : List ℕ) (ps : List ℤ) → length ms ≡ length ps → map (λ (z : ℕ × ℤ). f z.1) (zip ms ps) ≡ map f ps
seconds f [] [] e = refl
seconds f [] (p ∷ ps) e = absurd (omega arith)
seconds f (m ∷ ms) [] e = absurd (omega arith)
seconds f (m ∷ ms) (p ∷ ps) e = ap (λ l. f p ∷ l) (seconds f ms ps (omega arith))

pub tried-prices : (l : List Point) (ms : List ℕ) (ps : List ℤ) → length ms ≡ length ps → unwrap_or (reduce max (map (λ (z : ℤ). up z * mwh_at (up z) l) ps)) 0 ≡ tried l (curve ms ps)
tried-prices l ms ps e = ap (λ (ns : List ℕ). unwrap_or (reduce max ns) 0) (sym (seconds (λ (z : ℤ). up z * mwh_at (up z) l) ms ps e)) ∙ tried-zip l ms ps

-- the largest from a number not below 0 on: each point's -(MWh x price)
pub wheel-zip : (a : ℤ) → down a ≡ 0 → (ms : List ℕ) (ps : List ℤ) → fold (λ (b z : ℤ). max_of z b) a (map (λ (z : ℕ × ℤ). neg_ℤ (pos z.0 *ℤ z.1)) (zip ms ps)) ≡ max_of a (wheel_exposure (curve ms ps))
unfolding wheel_exposure
wheel-zip a e [] ps = omega (arith, signed, larger-of a (pos 0))
wheel-zip a e (m ∷ ms) [] = omega (arith, signed, larger-of a (pos 0))
wheel-zip a e (m ∷ ms) (p ∷ ps) =
    let z = neg_ℤ (pos m *ℤ p) in
    let w = wheel_exposure (curve ms ps) in
    wheel-zip (max_of z a) (omega (arith, larger-of z a)) ms ps ∙ omega (arith, signed, larger-of z a, larger-of (max_of z a) w, larger-of z w, larger-of a (max_of z w))
