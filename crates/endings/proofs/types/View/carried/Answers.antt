-- `View::carried`: refused by the first row that applies to the totals, or carried out.
use borrow.Author.Rules.{rules}
use mathlib.Core.Path.{◌≡◌, ◌∙◌, sym, ap}
use Prim.Native.Nat.{ℕ}
use Rattle.std.proofs.Common.{ℤ, w64, FitsSigned}
use mir.Facts.{to_z-of_z}
use Rattle.refusals.specs.Refusals.{Verdict, refuse, accept, judge, number_of}
use Rattle.refusals.proofs.Laws.{refused_too, accepted_too}
use Rattle.messages.specs.declared.types.Change.TheVariants.{Add, Rebid, Advance, Remove, AddPending}
use Rattle.messages.specs.declared.types.Deed.{Deed}
use Rattle.messages.specs.declared.types.Deed.TheVariants.{Keyed, SetSupport, CloseHour}
use Rattle.records.proofs.Bounds.{requirement-bounded}
use Rattle.credit.specs.declared.types.Totals.{Totals}
use Rattle.credit.specs.NoOverflow.{DeedBounded}
use Rattle.credit.specs.Credit.{credit_rows}
use Rattle.endings.specs.Endings.{DeedSound, totals_of, credit_verdict, carried_out, ending_of}
use Rattle.endings.proofs.types.View.carried.Goals as goal

-- a deed in range brings requirements in range
bounded : (d : Deed) → DeedSound d → DeedBounded d
bounded (Keyed (Add r)) f = requirement-bounded r f
bounded (Keyed (Rebid was r)) f = (f.0, requirement-bounded r f.1)
bounded (Keyed (Advance r)) f = tt
bounded (Keyed (Remove k)) f = tt
bounded (Keyed (AddPending r)) f = tt
bounded (SetSupport z) f = tt
bounded (CloseHour hour) f = tt

-- what the rows say of the deed
module _ (t : Totals) (d : Deed) where
  rows-refused : (n : ℕ) (u : Totals) → u ≡ t → ◌≡◌ {A = Verdict (Unit {0})} (refuse n) (judge (credit_rows u d) (tt {0})) → credit_verdict t d ≡ refuse n
  unfolding credit_verdict
  rows-refused n u p e = sym (refused_too (credit_rows t d) n (tt {0}) d (e ∙ ap (λ (x : Totals). judge (credit_rows x d) (tt {0})) p))

  rows-accepted : (u : Totals) → u ≡ t → ◌≡◌ {A = Verdict (Unit {0})} (accept (tt {0})) (judge (credit_rows u d) (tt {0})) → credit_verdict t d ≡ accept d
  unfolding credit_verdict
  rows-accepted u p e = sym (accepted_too (credit_rows t d) (tt {0}) (tt {0}) d (e ∙ ap (λ (x : Totals). judge (credit_rows x d) (tt {0})) p))

pub check-requires-clause-deed_bounded : goal.check-requires-clause-deed_bounded
check-requires-clause-deed_bounded c = bounded c.args.deed c.requires.plan

pub returns-in-Err : goal.returns-in-Err
unfolding ending_of
returns-in-Err c =
    let s = c.args.self in
    c.refused.ensures
    ∙ ap (ending_of s) (sym (rows-refused (totals_of s) c.args.deed (number_of c.in-Err.refusal) c.totals.result c.totals.ensures c.in-Err.ensures))

pub returns-in-Keyed : goal.returns-in-Keyed
unfolding ending_of
returns-in-Keyed c =
    let s = c.args.self in
    let passed = rows-accepted (totals_of s) c.args.deed c.totals.result c.totals.ensures c.in_default.ensures in
    c.changed.ensures ∙ ap (carried_out s) (sym c.in-Keyed.is) ∙ ap (ending_of s) (sym passed)

pub returns-in-SetSupport : goal.returns-in-SetSupport
unfolding ending_of
returns-in-SetSupport c =
    let s = c.args.self in
    let passed = rows-accepted (totals_of s) c.args.deed c.totals.result c.totals.ensures c.in_default.ensures in
    let h : FitsSigned w64 c.in-SetSupport.support = search rules in
    c.funded.ensures
    ∙ ap (λ (z : ℤ). carried_out s (SetSupport z)) (to_z-of_z {w = w64} h)
    ∙ ap (carried_out s) (sym c.in-SetSupport.is)
    ∙ ap (ending_of s) (sym passed)

pub returns-in-CloseHour : goal.returns-in-CloseHour
unfolding ending_of
returns-in-CloseHour c =
    let s = c.args.self in
    let passed = rows-accepted (totals_of s) c.args.deed c.totals.result c.totals.ensures c.in_default.ensures in
    c.left.ensures ∙ ap (carried_out s) (sym c.in-CloseHour.is) ∙ ap (ending_of s) (sym passed)
