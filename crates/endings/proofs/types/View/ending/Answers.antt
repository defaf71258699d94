-- `View::ending`: refusal 1 first; then the plan's own refusal, or what it asks for.
use borrow.Author.Tests.{not-true, not-false}
use mathlib.Core.Path.{◌≡◌, ◌∙◌, sym, ap}
use mathlib.Core.Bool.{Bool, true, false, cond}
use Rattle.refusals.specs.Refusals.{Verdict, verdict_of, refuse, accept, number_of}
use Rattle.messages.specs.declared.types.Deed.{Deed}
use Rattle.refusals.specs.declared.Refusal.{Refusal}
use Rattle.std.specs.Prelude.{Result}
use Rattle.endings.specs.Endings.{View, totals_of, pass, unsound, ending_of, ended}
use Rattle.endings.proofs.types.View.ending.Goals as goal

-- by the test of soundness
module _ (s : View) (v : Verdict Deed) where
  ended-unsound : s.sound ≡ false → unsound s ≡ ended s v
  unfolding ended
  ended-unsound e = ap (λ (t : Bool). cond t (ending_of s (pass (totals_of s) v)) (unsound s)) (sym e)

  ended-sound : s.sound ≡ true → ending_of s (pass (totals_of s) v) ≡ ended s v
  unfolding ended
  ended-sound e = ap (λ (t : Bool). cond t (ending_of s (pass (totals_of s) v)) (unsound s)) (sym e)

pub returns-then-not-self : goal.returns-then-not-self
returns-then-not-self c =
    let a = c.args in
    c.not_sound.ensures ∙ ended-unsound a.self (verdict_of a.plan) (not-true _ c.if-not-self.true)

pub returns-in-Err : goal.returns-in-Err
unfolding ending_of pass
returns-in-Err c =
    let s = c.args.self in
    c.refused.ensures
    ∙ ended-sound s (refuse (number_of c.in-Err.refusal)) (not-false _ c.if-not-self.false)
    ∙ ap (λ (p : Result Deed Refusal). ended s (verdict_of p)) (sym c.in-Err.is)

pub returns-in-Ok : goal.returns-in-Ok
unfolding pass
returns-in-Ok c =
    let s = c.args.self in
    c.carried.ensures ∙ ended-sound s (accept c.in-Ok.deed) (not-false _ c.if-not-self.false) ∙ ap (λ (p : Result Deed Refusal). ended s (verdict_of p)) (sym c.in-Ok.is)
