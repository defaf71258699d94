-- The two sides that no row refuses; what an entry answers; and that posting never asks for more than the bid did.
-- Assumes nothing.
use mathlib.Core.Path.{◌≡◌, refl, sym, ap, ◌∙◌}
use mathlib.Core.Bool.{Bool, true, false, cond, ◌&&◌}
use Prim.Native.Nat.{ℕ, ◌-◌, ◌*◌, ◌≤◌, ◌<◌}
use native.Mathlib.Nat.{zero-mul, le_trans, le_refl}
use native.Mathlib.Omega.{arith}
use borrow.Author.Tests.{lt-ltb, le-ltb, ltb-true, ltb-false, eqb-true, eqb-false, leb-true, not-false}
use lib.Dec.{ltb, eqb}
use lib.IntN.{pos}
use lib.Signed.{◌≤ℤ◌}
use Rattle.amounts.specs.Amount.{Range}
use Rattle.amounts.specs.Limits.{is_differential}
use Rattle.amounts.proofs.Signed.{signed, larger-of, mul_mono, tested}
use Rattle.refusals.specs.Refusals.{first, None, judge, accept, refuse}
use Rattle.refusals.specs.Figures.{refusal_of}
use Rattle.refusals.proofs.Laws.{numbered, and_left, and_right, none-applies, judge-none, answered-some}
use Rattle.virtuals.specs.Virtuals.{Side, Supply, no_supply, is_no_supply, is_side_mwh, side_rows, mwh_rows, virtual_bid, virtual_posted, bid_verdict, posted_verdict, PostedOf, PostingAsksNoMore}

module _ (load supply : Side) where
  pub side-rows-numbered : numbered (side_rows load supply) ≡ true
  unfolding numbered side_rows
  side-rows-numbered = refl

  -- what a side has where no row applies
  pub record Fits (side : Side) : Type 0 where
    pub mwh : is_side_mwh side.mwh ≡ true
    pub differential : is_differential side.differential ≡ true

  pub fits : None (side_rows load supply) → Fits load × Fits supply
  unfolding None side_rows
  fits h =
      let m = not-false (is_side_mwh load.mwh && is_side_mwh supply.mwh) h.0 in
      let d = not-false (is_differential load.differential && is_differential supply.differential) h.1.0 in (
        record { mwh = and_left (is_side_mwh load.mwh) (is_side_mwh supply.mwh) m; differential = and_left (is_differential load.differential) (is_differential supply.differential) d },
        record { mwh = and_right (is_side_mwh load.mwh) (is_side_mwh supply.mwh) m; differential = and_right (is_differential load.differential) (is_differential supply.differential) d },
      )

  pub bid-accepted : None (side_rows load supply) → bid_verdict load supply ≡ accept (virtual_bid load supply)
  unfolding bid_verdict
  bid-accepted h = judge-none (side_rows load supply) (virtual_bid load supply) h

  pub bid-refused : (first (side_rows load supply) ≡ 0 → ⊥) → bid_verdict load supply ≡ refuse (first (side_rows load supply))
  unfolding bid_verdict judge
  bid-refused h = answered-some (first (side_rows load supply)) (virtual_bid load supply) h

  pub posted-accepted : None (side_rows load supply) → posted_verdict load supply ≡ accept (virtual_posted load supply)
  unfolding posted_verdict
  posted-accepted h = judge-none (side_rows load supply) (virtual_posted load supply) h

  pub posted-refused : (first (side_rows load supply) ≡ 0 → ⊥) → posted_verdict load supply ≡ refuse (first (side_rows load supply))
  unfolding posted_verdict judge
  posted-refused h = answered-some (first (side_rows load supply)) (virtual_posted load supply) h

pub mwh-rows-numbered : (load supply : ℕ) → numbered (mwh_rows load supply) ≡ true
unfolding numbered mwh_rows
mwh-rows-numbered load supply = refl

-- the number that an entry answers is that of the rows
module _ (load supply : Side) where
  abbrev number : ℕ
  number = first (side_rows load supply)

  pub bid-number : refusal_of (bid_verdict load supply) ≡ first (side_rows load supply)
  bid-number =
      tested (eqb number 0) (λ e. ap refusal_of (bid-accepted load supply (none-applies (side_rows load supply) (side-rows-numbered load supply) (eqb-true number 0 e))) ∙ sym (eqb-true number 0 e))
      (λ e. ap refusal_of (bid-refused load supply (eqb-false number 0 e)))

-- ---- the supply side that a record keeps

pub no-supply-eq : (s : Supply) → is_no_supply s ≡ true → s ≡ no_supply
no-supply-eq s h =
    let two = and_left (eqb s.mwh 0 && eqb s.differential 0) (eqb s.schedule 0) h in
    λ i. record {
      mwh = eqb-true s.mwh 0 (and_left (eqb s.mwh 0) (eqb s.differential 0) two) i;
      differential = eqb-true s.differential 0 (and_right (eqb s.mwh 0) (eqb s.differential 0) two) i;
      schedule = eqb-true s.schedule 0 (and_right (eqb s.mwh 0 && eqb s.differential 0) (eqb s.schedule 0) h) i;
    }

-- ---- the net position

pub net-load : (load supply : Side) → supply.mwh < load.mwh → virtual_posted load supply ≡ pos ((load.mwh - supply.mwh) * load.differential)
unfolding virtual_posted
net-load load supply h = rw (lt-ltb supply.mwh load.mwh h)

-- where the sides cancel it is no MWh at either differential
cancel : (l s d : ℕ) → cond (ltb l s) (pos ((s - l) * d)) (pos 0) ≡ pos ((s - l) * d)
cancel l s d = by (ltb l s) refl
  where
    by : (t : Bool) → ltb l s ≡ t → cond t (pos ((s - l) * d)) (pos 0) ≡ pos ((s - l) * d)
    by true e = refl
    by false e =
        let none : s - l ≡ 0 = omega (arith, ltb-false l s e) in
        rw (none, zero-mul d)

pub net-supply : (load supply : Side) → load.mwh ≤ supply.mwh → virtual_posted load supply ≡ pos ((supply.mwh - load.mwh) * supply.differential)
unfolding virtual_posted
net-supply load supply h = rw (le-ltb supply.mwh load.mwh h) (cancel load.mwh supply.mwh supply.differential)

-- ---- posting never asks for more

-- MWh of a side that was bid, at the differential that it was bid with, come to no more than the side did
side-less : (bid posted : Side) (n : ℕ) → PostedOf bid posted → n ≤ posted.mwh → n * posted.differential ≤ bid.mwh * bid.differential
side-less bid posted n of h = rw of.differential (mul_mono (le_trans h of.mwh) (le_refl bid.differential))

module _ (load supply posted_load posted_supply : Side) (of-load : PostedOf load posted_load) (of-supply : PostedOf supply posted_supply) where
  by-load : posted_supply.mwh < posted_load.mwh → virtual_posted posted_load posted_supply ≤ℤ virtual_bid load supply
  unfolding virtual_bid
  by-load h =
      let m = side-less load posted_load (posted_load.mwh - posted_supply.mwh) of-load (omega arith) in
      rw (net-load posted_load posted_supply h) (omega (arith, signed, m, larger-of (pos (load.mwh * load.differential)) (pos (supply.mwh * supply.differential))))

  by-supply : posted_load.mwh ≤ posted_supply.mwh → virtual_posted posted_load posted_supply ≤ℤ virtual_bid load supply
  unfolding virtual_bid
  by-supply h =
      let m = side-less supply posted_supply (posted_supply.mwh - posted_load.mwh) of-supply (omega arith) in
      rw (net-supply posted_load posted_supply h) (omega (arith, signed, m, larger-of (pos (load.mwh * load.differential)) (pos (supply.mwh * supply.differential))))

  by-test : virtual_posted posted_load posted_supply ≤ℤ virtual_bid load supply
  by-test =
      tested (ltb posted_supply.mwh posted_load.mwh) (λ e. by-load (ltb-true posted_supply.mwh posted_load.mwh e)) (λ e. by-supply (ltb-false posted_supply.mwh posted_load.mwh e))

pub posting-asks-no-more : PostingAsksNoMore
posting-asks-no-more = by-test

-- ---- how large a requirement is

product : (side : Side) (n : ℕ) → n ≤ 10000 → is_differential side.differential ≡ true → n * side.differential ≤ 10000000000
product side n h d = mul_mono h (leb-true side.differential 1000000 d)

module _ (load supply : Side) (h : None (side_rows load supply)) where
  pub bid-range : Range 0 10000000000 (virtual_bid load supply)
  unfolding virtual_bid
  bid-range =
      let f = fits load supply h in
      let l = product load load.mwh (leb-true load.mwh 10000 f.0.mwh) f.0.differential in
      let s = product supply supply.mwh (leb-true supply.mwh 10000 f.1.mwh) f.1.differential in
      omega (arith, signed, l, s, larger-of (pos (load.mwh * load.differential)) (pos (supply.mwh * supply.differential)))

  pub posted-range : Range 0 10000000000 (virtual_posted load supply)
  posted-range =
      let f = fits load supply h in
      let most_Load = leb-true load.mwh 10000 f.0.mwh in
      let most-supply = leb-true supply.mwh 10000 f.1.mwh in
      tested (ltb supply.mwh load.mwh)
      (λ e. rw (net-load load supply (ltb-true supply.mwh load.mwh e)) (record { low = omega arith; high = product load (load.mwh - supply.mwh) (omega (arith, most_Load)) f.0.differential }))
      (λ e. rw (net-supply load supply (ltb-false supply.mwh load.mwh e)) (record { low = omega arith; high = product supply (supply.mwh - load.mwh) (omega (arith, most-supply)) f.1.differential }))
