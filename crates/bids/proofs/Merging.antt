-- 02, order 7: for kinds 2 and 3, two points at one price ask what a single point of their summed MWh asks. Such a bid goes by the MWh at each price and by the MWh sum, and points add up in both.
-- Assumes nothing.
use mathlib.Core.Path.{◌≡◌, refl, sym, ap, subst, ◌∙◌}
use mathlib.Core.Bool.{Bool, true, false, not, cond, ◌&&◌}
use mathlib.Core.List.{List, [], ◌∷◌, ◌++◌}
use Prim.Native.Nat.{ℕ, ◌+◌, ◌≤◌}
use native.Mathlib.Omega.{arith}
use lib.Dec.{leb, eqb}
use lib.IntN.{ℤ, pos}
use lib.Signed.{le_z}
use lib.ListN.{length, length-append}
use borrow.Author.Tests.{leb-true, le-leb, eqb-true, eqb-false}
use Rattle.amounts.specs.Limits.{between, is_point_mwh, is_price}
use Rattle.amounts.specs.Lists.{every}
use Rattle.amounts.proofs.Signed.{tested}
use Rattle.refusals.specs.declared.Bid.{Bid}
use Rattle.refusals.specs.Refusals.{row, judge}
use Rattle.refusals.proofs.Laws.{and_left, and_right}
use Rattle.kinds.specs.Kinds.{kind_row, rules_of, has_one_curve, differential_fits, by_kind}
use Rattle.bids.specs.Points.{Point, curve, total_mwh, mwh_at}
use Rattle.bids.specs.Bids.{export_bid, bid_mwh, bid_requirement}
use Rattle.bids.specs.Rows.{point_rows, bid_rows}
use Rattle.bids.specs.Entries.{bid_verdict}
use Rattle.bids.specs.Joining.{is_export}
use Rattle.bids.proofs.Joining.{mwh_at-join, total-join, exposure-by, asks}
use Rattle.bids.proofs.Lists.{mwhs_of, prices_of, curve-of, every_map, every_append, counted}

-- ---- kinds 2 and 3

by-export : (P : ℕ → Type 0) → P 2 → P 3 → (kind : ℕ) → is_export kind ≡ true → P kind
by-export P two three kind h =
    tested (eqb kind 2) (λ e. subst P (sym (eqb-true kind 2 e)) two)
    (λ e.
    let low = leb-true 2 kind (and_left (leb 2 kind) (leb kind 3) h) in
    let high = leb-true kind 3 (and_right (leb 2 kind) (leb kind 3) h) in
    let is : kind ≡ 3 = omega (arith, eqb-false kind 2 e) in
    subst P (sym is) three)

-- 'Points add up: bid MWh is their sum'
export-mwh : (kind : ℕ) → is_export kind ≡ true → (l : List Point) → bid_mwh kind l ≡ total_mwh l
unfolding bid_mwh rules_of by_kind
export-mwh kind h l = by-export (λ (k : ℕ). bid_mwh k l ≡ total_mwh l) refl refl kind h

-- what such a bid asks goes by the MWh at each price, and by their sum
export-same : (l l' : List Point) → ((p : ℕ) → mwh_at p l ≡ mwh_at p l') → total_mwh l ≡ total_mwh l' → (d : ℕ) → export_bid l d ≡ export_bid l' d
unfolding export_bid
export-same l l' same sum d = rw (exposure-by l l' same, sum)

-- ---- a test of each point: of the two as of the single one
once : (a b c t : Bool) → (a && (t && (b && (t && c)))) ≡ (t && (a && (b && c)))
once a b c true = refl
once true b c false = refl
once false b c false = refl

front : (a c t : Bool) → (a && (t && c)) ≡ (t && (a && c))
front a c true = refl
front true c false = refl
front false c false = refl

module _ (m₁ m₂ : ℕ) (z : ℤ) (before middle after left right : List Point) (others : left ++ right ≡ before ++ (middle ++ after)) where
  abbrev q₁ : Point
  q₁ = record { mwh = m₁; price = z }

  abbrev q₂ : Point
  q₂ = record { mwh = m₂; price = z }

  abbrev q : Point
  q = record { mwh = m₁ + m₂; price = z }

  -- two points at one price, wherever they stand; the single one, wherever it stands among the others
  abbrev two : List Point
  two = before ++ (q₁ ∷ (middle ++ (q₂ ∷ after)))

  abbrev one : List Point
  one = left ++ (q ∷ right)

  shares : (t : Bool) → cond t m₁ 0 + cond t m₂ 0 ≡ cond t (m₁ + m₂) 0
  shares true = refl
  shares false = refl

  mwh_at-merged : (p : ℕ) → mwh_at p two ≡ mwh_at p one
  unfolding mwh_at
  mwh_at-merged p =
      omega (
        arith,
        mwh_at-join p before (q₁ ∷ (middle ++ (q₂ ∷ after))),
        mwh_at-join p middle (q₂ ∷ after),
        mwh_at-join p before (middle ++ after),
        mwh_at-join p middle after,
        mwh_at-join p left (q ∷ right),
        mwh_at-join p left right,
        ap (mwh_at p) others,
        shares (le_z (pos p) z),
      )

  total-merged : total_mwh two ≡ total_mwh one
  unfolding total_mwh
  total-merged =
      omega (
        arith,
        total-join before (q₁ ∷ (middle ++ (q₂ ∷ after))),
        total-join middle (q₂ ∷ after),
        total-join before (middle ++ after),
        total-join middle after,
        total-join left (q ∷ right),
        total-join left right,
        ap total_mwh others,
      )

  every-merged : (t : Point → Bool) (s : Bool) → t q₁ ≡ s → t q₂ ≡ s → t q ≡ s → every t two ≡ every t one
  unfolding every
  every-merged t s e₁ e₂ e =
      every_append t before (q₁ ∷ (middle ++ (q₂ ∷ after)))
      ∙ ap (λ (b : Bool). every t before && (t q₁ && b)) (every_append t middle (q₂ ∷ after))
      ∙ rw (e₁, e₂) (once (every t before) (every t middle) (every t after) s)
      ∙ ap (λ (b : Bool). s && (every t before && b)) (sym (every_append t middle after))
      ∙ ap (λ (b : Bool). s && b) (sym (every_append t before (middle ++ after)))
      ∙ ap (λ (l : List Point). s && every t l) (sym others)
      ∙ ap (λ (b : Bool). s && b) (every_append t left right)
      ∙ sym (front (every t left) (every t right) s)
      ∙ ap (λ (b : Bool). every t left && (b && every t right)) (sym e)
      ∙ sym (every_append t left (q ∷ right))

  length_merged : length two ≡ length one + 1
  length_merged =
      omega (
        arith,
        length-append before (q₁ ∷ (middle ++ (q₂ ∷ after))),
        length-append middle (q₂ ∷ after),
        length-append before (middle ++ after),
        length-append middle after,
        length-append left (q ∷ right),
        length-append left right,
        ap (λ (l : List Point). length l) others,
      )

  some_left : 1 ≤ length one
  some_left = omega (arith, length-append left (q ∷ right))

  module _ (limit : is_point_mwh (m₁ + m₂) ≡ true) (few : length two ≤ 64) where
    fits₁ : is_point_mwh m₁ ≡ true
    fits₁ = le-leb m₁ 10000 (omega (arith, leb-true (m₁ + m₂) 10000 limit))

    fits₂ : is_point_mwh m₂ ≡ true
    fits₂ = le-leb m₂ 10000 (omega (arith, leb-true (m₁ + m₂) 10000 limit))

    count-merged : (between 1 64 (length (mwhs_of two)) && eqb (length (mwhs_of two)) (length (prices_of two))) ≡ (between 1 64 (length (mwhs_of one)) && eqb (length (mwhs_of one)) (length (prices_of one)))
    count-merged =
        counted two (omega (arith, length_merged)) few ∙ sym (counted one some_left (omega (arith, length_merged)))

    mwhs-merged : every is_point_mwh (mwhs_of two) ≡ every is_point_mwh (mwhs_of one)
    mwhs-merged =
        every_map (λ (x : Point). x.mwh) is_point_mwh two ∙ every-merged (λ (x : Point). is_point_mwh x.mwh) true fits₁ fits₂ limit
        ∙ sym (every_map (λ (x : Point). x.mwh) is_point_mwh one)

    prices-merged : every is_price (prices_of two) ≡ every is_price (prices_of one)
    prices-merged =
        every_map (λ (x : Point). x.price) is_price two ∙ every-merged (λ (x : Point). is_price x.price) (is_price z) refl refl refl
        ∙ sym (every_map (λ (x : Point). x.price) is_price one)

    -- the same rows apply, 5 to 8
    pub merged-rows : (kind d : ℕ) → bid_rows kind (mwhs_of two) (prices_of two) d ≡ bid_rows kind (mwhs_of one) (prices_of one) d
    unfolding bid_rows point_rows
    merged-rows kind d =
        λ i. row 5 (not (has_one_curve (rules_of kind)))
        ∷ row 5 (not (count-merged i))
        ∷ row 6 (not (mwhs-merged i))
        ∷ row 7 (not (prices-merged i))
        ∷ row 8 (not (differential_fits (rules_of kind) d))
        ∷ []

  module _ (kind : ℕ) (export : is_export kind ≡ true) where
    pub merged-mwh : bid_mwh kind two ≡ bid_mwh kind one
    merged-mwh = export-mwh kind export two ∙ total-merged ∙ sym (export-mwh kind export one)

    pub merged-requirement : (d : ℕ) (exempt : Bool) → bid_requirement kind two d exempt ≡ bid_requirement kind one d exempt
    merged-requirement d exempt =
        asks kind export two d exempt ∙ export-same two one mwh_at-merged total-merged (cond (eqb kind 2) d 0) ∙ sym (asks kind export one d exempt)

    abbrev asked : List Point → ℕ → Bool → Bid
    asked l d exempt = record { mwh = bid_mwh kind (curve (mwhs_of l) (prices_of l)); cents = bid_requirement kind (curve (mwhs_of l) (prices_of l)) d exempt }

    asked-merged : (d : ℕ) (exempt : Bool) → asked two d exempt ≡ asked one d exempt
    asked-merged d exempt =
        rw (curve-of two, curve-of one) (λ i. record { mwh = merged-mwh i; cents = merged-requirement d exempt i })

    -- and the same is answered, refused or not
    pub merged-verdict : is_point_mwh (m₁ + m₂) ≡ true → length two ≤ 64 → (d : ℕ) (exempt : Bool) → bid_verdict kind (mwhs_of two) (prices_of two) d exempt ≡ bid_verdict kind (mwhs_of one) (prices_of one) d exempt
    unfolding bid_verdict
    merged-verdict limit few d exempt = λ i. judge (kind_row kind ∷ merged-rows limit few kind d i) (asked-merged d exempt i)
