-- Demand 3's joining clause. A price exposure depends on the MWh at each price alone, and these add; so does the MWh sum.
-- Assumes nothing.
use mathlib.Core.Path.{◌≡◌, refl, sym, ap, subst, ◌∙◌}
use mathlib.Core.Bool.{Bool, true, not, cond, ◌&&◌}
use mathlib.Core.List.{List, [], ◌∷◌, ◌++◌}
use Prim.Native.Nat.{ℕ, ◌+◌, ◌*◌, ◌≤◌, max}
use native.Mathlib.Nat.{mul-add, add-mul}
use native.Mathlib.Omega.{arith}
use lib.Dec.{leb, eqb}
use lib.IntN.{ℤ, pos, ◌+ℤ◌}
use lib.Signed.{◌≤ℤ◌}
use lib.ListN.{length, length-append}
use borrow.Author.Tests.{leb-true, le-leb, eqb-true, eqb-false, eq-eqb}
use Rattle.amounts.specs.Limits.{is_point_mwh, is_price}
use Rattle.amounts.specs.Lists.{every}
use Rattle.amounts.proofs.Signed.{signed, tested, larger-of, sum_of}
use Rattle.refusals.specs.Refusals.{row, None}
use Rattle.refusals.proofs.Laws.{and_left, and_right, and_both, none-join}
use Rattle.kinds.specs.Kinds.{rules_of, differential_fits, by_kind}
use Rattle.bids.specs.Points.{Point, curve, total_mwh, mwh_at, exposure}
use Rattle.bids.specs.Bids.{export_bid, hour_ahead_bid, bid_requirement}
use Rattle.bids.specs.Rows.{point_rows, bid_rows}
use Rattle.bids.specs.Joining.{is_export, Joined}
use Rattle.bids.proofs.Largest.{exposure-is, exposure-only}
use Rattle.bids.proofs.Curves.{Fit, fit, fit-bid}

-- ---- points, joined

pub mwh_at-join : (p : ℕ) (l₁ l₂ : List Point) → mwh_at p (l₁ ++ l₂) ≡ mwh_at p l₁ + mwh_at p l₂
unfolding mwh_at
mwh_at-join p [] l₂ = omega arith
mwh_at-join p (q ∷ qs) l₂ = omega (arith, mwh_at-join p qs l₂)

pub total-join : (l₁ l₂ : List Point) → total_mwh (l₁ ++ l₂) ≡ total_mwh l₁ + total_mwh l₂
unfolding total_mwh
total-join [] l₂ = omega arith
total-join (q ∷ qs) l₂ = omega (arith, total-join qs l₂)

-- two curves with the same MWh at each price have the same exposure
pub exposure-by : (l l' : List Point) → ((p : ℕ) → mwh_at p l ≡ mwh_at p l') → exposure l ≡ exposure l'
exposure-by l l' same =
    exposure-only
    (record {
      above = λ p. rw (← same p) ((exposure-is l).above p);
      met = ((exposure-is l).met.0, rw (← same (exposure-is l).met.0) (exposure-is l).met.1);
    })

exposure-swap : (l₁ l₂ : List Point) → exposure (l₁ ++ l₂) ≡ exposure (l₂ ++ l₁)
exposure-swap l₁ l₂ = exposure-by (l₁ ++ l₂) (l₂ ++ l₁) (λ p. omega (arith, mwh_at-join p l₁ l₂, mwh_at-join p l₂ l₁))

at_join : (p : ℕ) (l₁ l₂ : List Point) → p * mwh_at p (l₁ ++ l₂) ≡ p * mwh_at p l₁ + p * mwh_at p l₂
at_join p l₁ l₂ = rw (mwh_at-join p l₁ l₂, mul-add)

exposure-join : (l₁ l₂ : List Point) → (max (exposure l₁) (exposure l₂) ≤ exposure (l₁ ++ l₂)) × (exposure (l₁ ++ l₂) ≤ exposure l₁ + exposure l₂)
exposure-join l₁ l₂ =
    let x = exposure-is l₁ in
    let y = exposure-is l₂ in
    let z = exposure-is (l₁ ++ l₂) in
    let a = x.met.0 in
    let b = y.met.0 in
    let c = z.met.0 in (
      omega (arith, x.met.1, y.met.1, z.above a, z.above b, at_join a l₁ l₂, at_join b l₁ l₂),
      omega (arith, z.met.1, x.above c, y.above c, at_join c l₁ l₂),
    )

-- ---- requirements

export-swap : (l₁ l₂ : List Point) (d : ℕ) → export_bid (l₁ ++ l₂) d ≡ export_bid (l₂ ++ l₁) d
unfolding export_bid
export-swap l₁ l₂ d =
    let t : total_mwh (l₁ ++ l₂) ≡ total_mwh (l₂ ++ l₁) = omega (arith, total-join l₁ l₂, total-join l₂ l₁) in
    rw (exposure-swap l₁ l₂, t)

record Shared (l₁ l₂ : List Point) (d : ℕ) : Type 0 where
  left : export_bid l₁ d ≤ℤ export_bid (l₁ ++ l₂) d
  right : export_bid l₂ d ≤ℤ export_bid (l₁ ++ l₂) d
  together : export_bid (l₁ ++ l₂) d ≤ℤ (export_bid l₁ d +ℤ export_bid l₂ d)

pub export-cents : (l : List Point) (d : ℕ) → export_bid l d ≡ pos (max (exposure l) (total_mwh l * d))
unfolding export_bid
export-cents l d = omega (arith, signed, larger-of (pos (exposure l)) (pos (total_mwh l * d)))

export-join : (l₁ l₂ : List Point) (d : ℕ) → Shared l₁ l₂ d
export-join l₁ l₂ d =
    let t : total_mwh (l₁ ++ l₂) * d ≡ total_mwh l₁ * d + total_mwh l₂ * d = rw (total-join l₁ l₂, add-mul) in
    let e = exposure-join l₁ l₂ in
    let a = export-cents l₁ d in
    let b = export-cents l₂ d in
    let c = export-cents (l₁ ++ l₂) d in
    let s = sum_of (export_bid l₁ d) (export_bid l₂ d) in
    record { left = omega (arith, signed); right = omega (arith, signed); together = omega (arith, signed) }

-- a kind 3 asks what a kind 2 with no differential would
pub asks : (kind : ℕ) → is_export kind ≡ true → (l : List Point) (d : ℕ) (exempt : Bool) → bid_requirement kind l d exempt ≡ export_bid l (cond (eqb kind 2) d 0)
unfolding bid_requirement by_kind hour_ahead_bid
asks kind h l d exempt =
    tested (eqb kind 2)
    (λ e. subst (λ (k : ℕ). bid_requirement k l d exempt ≡ export_bid l (cond (eqb k 2) d 0)) (sym (eqb-true kind 2 e)) refl)
    (λ e.
    let two = leb-true 2 kind (and_left (leb 2 kind) (leb kind 3) h) in
    let three = leb-true kind 3 (and_right (leb 2 kind) (leb kind 3) h) in
    let is : kind ≡ 3 = omega (arith, eqb-false kind 2 e) in
    subst (λ (k : ℕ). bid_requirement k l d exempt ≡ export_bid l (cond (eqb k 2) d 0)) (sym is) (sym (export-cents l 0 ∙ ap pos (omega arith))))

-- ---- lists, joined

curve-join : (m₁ m₂ : List ℕ) (p₁ p₂ : List ℤ) → length m₁ ≡ length p₁ → curve (m₁ ++ m₂) (p₁ ++ p₂) ≡ curve m₁ p₁ ++ curve m₂ p₂
curve-join [] m₂ [] p₂ e = refl
curve-join [] m₂ (p ∷ ps) p₂ e = absurd (omega arith)
curve-join (m ∷ ms) m₂ [] p₂ e = absurd (omega arith)
curve-join (m ∷ ms) m₂ (p ∷ ps) p₂ e = ap (λ (l : List Point). record { mwh = m; price = p } ∷ l) (curve-join ms m₂ ps p₂ (omega arith))

every-join : {A : Type 0} (p : A → Bool) (xs ys : List A) → every p xs ≡ true → every p ys ≡ true → every p (xs ++ ys) ≡ true
unfolding every
every-join p [] ys h k = k
every-join p (x ∷ xs) ys h k = and_both (p x) (every p (xs ++ ys)) (and_left (p x) (every p xs) h) (every-join p xs ys (and_right (p x) (every p xs) h) k)

points-join : (m₁ m₂ : List ℕ) (p₁ p₂ : List ℤ) → Fit m₁ p₁ → Fit m₂ p₂ → length m₁ + length m₂ ≤ 64 → None (point_rows (m₁ ++ m₂) (p₁ ++ p₂))
unfolding None point_rows
points-join m₁ m₂ p₁ p₂ f g h =
    let m = length-append m₁ m₂ in
    let p = length-append p₁ p₂ in (
      ap not
          (and_both (leb 1 (length (m₁ ++ m₂)) && leb (length (m₁ ++ m₂)) 64) (eqb (length (m₁ ++ m₂)) (length (p₁ ++ p₂)))
          (and_both (leb 1 (length (m₁ ++ m₂))) (leb (length (m₁ ++ m₂)) 64) (le-leb 1 (length (m₁ ++ m₂)) (omega arith)) (le-leb (length (m₁ ++ m₂)) 64 (omega arith)))
          (eq-eqb (length (m₁ ++ m₂)) (length (p₁ ++ p₂)) (omega arith))),
      (ap not (every-join is_point_mwh m₁ m₂ f.mwhs g.mwhs), (ap not (every-join is_price p₁ p₂ f.prices g.prices), tt)),
    )

-- for kinds 2 and 3: two groups that are not refused, with at most 64 points together
pub joining : (kind : ℕ) (m₁ m₂ : List ℕ) (p₁ p₂ : List ℤ) (d : ℕ) (exempt : Bool) → is_export kind ≡ true → None (bid_rows kind m₁ p₁ d) → None (bid_rows kind m₂ p₂ d) → length m₁ + length m₂ ≤ 64 → Joined kind m₁ m₂ p₁ p₂ d exempt
unfolding bid_rows None
joining kind m₁ m₂ p₁ p₂ d exempt k none₁ none₂ h =
    let b₁ = fit-bid kind m₁ p₁ d none₁ in
    let b₂ = fit-bid kind m₂ p₂ d none₂ in
    let f = fit b₁.0 in
    let g = fit b₂.0 in
    let w = cond (eqb kind 2) d 0 in
    let s = export-join (curve m₁ p₁) (curve m₂ p₂) w in
    let a₁ = asks kind k (curve m₁ p₁) d exempt in
    let a₂ = asks kind k (curve m₂ p₂) d exempt in
    let a : bid_requirement kind (curve (m₁ ++ m₂) (p₁ ++ p₂)) d exempt ≡ export_bid (curve m₁ p₁ ++ curve m₂ p₂) w =
    asks kind k (curve (m₁ ++ m₂) (p₁ ++ p₂)) d exempt ∙ ap (λ (l : List Point). export_bid l w) (curve-join m₁ m₂ p₁ p₂ f.equal) in
    let b : bid_requirement kind (curve (m₂ ++ m₁) (p₂ ++ p₁)) d exempt ≡ export_bid (curve m₂ p₂ ++ curve m₁ p₁) w =
    asks kind k (curve (m₂ ++ m₁) (p₂ ++ p₁)) d exempt ∙ ap (λ (l : List Point). export_bid l w) (curve-join m₂ m₁ p₂ p₁ g.equal) in
    record {
      accepted = (
        none₁.0,
        none-join (point_rows (m₁ ++ m₂) (p₁ ++ p₂)) (row 8 (not (differential_fits (rules_of kind) d)) ∷ []) (points-join m₁ m₂ p₁ p₂ f g h)
            (ap not b₁.1, tt),
      );
      commutes = a ∙ export-swap (curve m₁ p₁) (curve m₂ p₂) w ∙ sym b;
      left = rw (a, a₁) s.left;
      right = rw (a, a₂) s.right;
      together = rw (a, a₁, a₂) s.together;
    }
