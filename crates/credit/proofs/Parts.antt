-- A record's two parts: each is in the range of a requirement, and together they are it. And how far the sums of such parts go.
-- Assumes nothing.
use mathlib.Core.Path.{◌≡◌, refl}
use mathlib.Core.Bool.{Bool, true, false, cond}
use Prim.Native.Nat.{ℕ, ◌+◌, ◌≤◌}
use native.Mathlib.Omega.{arith}
use lib.Dec.{eqb}
use lib.IntN.{ℤ, pos, ◌+ℤ◌, +ℤ_idr, +ℤ_idl}
use Rattle.amounts.specs.Amount.{Within}
use Rattle.amounts.proofs.Signed.{range-wider, range-add, range-sub}
use Rattle.kinds.specs.Kinds.{billed_stage}
use Rattle.records.specs.declared.types.Record.{Record}
use Rattle.records.specs.Records.{blank, ok_place}
use Rattle.records.proofs.Bounds.{requirement-bounded, owes-bounded}
use Rattle.credit.specs.Credit.{owes}
use Rattle.credit.specs.Sums.{Sums, unbilled_of, with_record, without_record, held_of}
use Rattle.credit.specs.NoOverflow.{SumsWithin, TotalsBounded}

pub owes-within : (r : Record) → ok_place r ≡ true → Within 1300000000000 (owes r)
unfolding owes
owes-within r h = owes-bounded r h

pub unbilled-within : (r : Record) → ok_place r ≡ true → Within 1300000000000 (unbilled_of r)
unfolding unbilled_of
unbilled-within r h = by-stage (eqb r.stage billed_stage)
  where
    by-stage : (t : Bool) → Within 1300000000000 (cond t (pos 0) r.requirement)
    by-stage true = omega arith
    by-stage false = requirement-bounded r h

-- a free place has neither
pub owes-blank : owes blank ≡ pos 0
unfolding owes
owes-blank = refl

pub unbilled-blank : unbilled_of blank ≡ pos 0
unfolding unbilled_of
unbilled-blank = refl

-- a record is unbilled or owed
pub parts : (r : Record) → unbilled_of r +ℤ owes r ≡ r.requirement
unfolding unbilled_of owes
parts r = by-stage (eqb r.stage billed_stage)
  where
    by-stage : (t : Bool) → cond t (pos 0) r.requirement +ℤ cond t r.requirement (pos 0) ≡ r.requirement
    by-stage true = +ℤ_idl r.requirement
    by-stage false = +ℤ_idr r.requirement

pub with-blank : (s : Sums) → with_record s blank ≡ s
unfolding unbilled_of owes
with-blank s = λ i. record { unbilled = +ℤ_idr s.unbilled i; owed = +ℤ_idr s.owed i }

-- ---- the sums, and held
pub sums-wider : {n m : ℕ} (s : Sums) → SumsWithin n s → n ≤ m → SumsWithin m s
sums-wider s h le = record { unbilled = range-wider h.unbilled le le; owed = range-wider h.owed le le }

module _ {n : ℕ} (s : Sums) (h : SumsWithin n s) where
  module _ (r : Record) (fine : ok_place r ≡ true) where
    pub with-within : SumsWithin (n + 1300000000000) (with_record s r)
    with-within = record { unbilled = range-add h.unbilled (unbilled-within r fine); owed = range-add h.owed (owes-within r fine) }

    pub without-within : SumsWithin (n + 1300000000000) (without_record s r)
    without-within = record { unbilled = range-sub h.unbilled (unbilled-within r fine); owed = range-sub h.owed (owes-within r fine) }

  pub held-within : Within (n + n) (held_of s.unbilled s.owed)
  unfolding held_of
  held-within = range-add h.unbilled h.owed

-- totals by sums of 256 records
pub totals-bounded : (support : ℤ) (full : Bool) (s : Sums) → SumsWithin 332800000000000 s → TotalsBounded (record { support = support; held = held_of s.unbilled s.owed; owed = s.owed; full = full })
totals-bounded support full s h =
    let wide : SumsWithin 400000000000000 s = sums-wider s h (omega arith) in
    record { held = held-within s wide; owed = wide.owed }
