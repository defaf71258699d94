-- The import test's answer, case by case and in the paper's words.
use mathlib.Core.Path.{◌≡◌, refl, ap, ◌∙◌, sym}
use mathlib.Core.Bool.{Bool, true, false, cond}
use Prim.Native.Nat.{◌≤◌}
use native.Mathlib.Omega.{arith}
use Rattle.std.proofs.lemmas.Bool.Decides.{nat_tests}
use Rattle.std.proofs.Common.{Option, Some, Ok}
use Rattle.history.specs.Test.{Answer, Refused, contradict, enough, counted, judged, judged_if, choose, import_test, number_of, Consistent, Exempts}
use Rattle.history.specs.declared.Window.{Window}
use Rattle.history.specs.declared.History.{History}

module _ (h : History) where
  abbrev three : Window
  three = h.three

  abbrev six : Window
  six = h.six

  pub refuses : contradict h ≡ true → import_test h ≡ Refused
  unfolding import_test
  refuses e = ap (λ (b : Bool). choose b Refused (Ok (judged_if (counted h)))) e

  answers : contradict h ≡ false → import_test h ≡ Ok (judged_if (counted h))
  unfolding import_test
  answers e = ap (λ (b : Bool). choose b Refused (Ok (judged_if (counted h)))) e

  pub by_three : contradict h ≡ false → enough three ≡ true → import_test h ≡ Ok (judged three)
  unfolding counted
  by_three e t = answers e ∙ simp t

  pub by-six : contradict h ≡ false → enough three ≡ false → enough six ≡ true → import_test h ≡ Ok (judged six)
  unfolding counted
  by-six e t s = answers e ∙ simp (t, s)

  pub by-none : contradict h ≡ false → enough three ≡ false → enough six ≡ false → import_test h ≡ Ok false
  unfolding counted
  by-none e t s = answers e ∙ simp (t, s)

judged-number : (w : Option Window) → number_of (Ok (judged_if w)) ≡ 0
judged-number w = of (judged_if w)
  where
    of : (b : Bool) → number_of (Ok b) ≡ 0
    of true = refl
    of false = refl

-- four times the loss of the window that counts fits
pub counted_loss : (h : History) (w : Window) → contradict h ≡ false → counted h ≡ Some w → w.loss ≤ 1000000000
unfolding contradict counted
counted_loss h w n e = grind (arith, nat_tests)

-- 01, Turned away: 17 exactly when the windows contradict
pub number : (h : History) → number_of (import_test h) ≡ cond (contradict h) 17 0
unfolding import_test
number h = grind (arith, nat_tests)

pub refused-exactly : (h : History) → (number_of (import_test h) ≡ 17 → Consistent h → ⊥) × ((Consistent h → ⊥) → number_of (import_test h) ≡ 17)
unfolding contradict import_test
refused-exactly h = (λ e c. grind (arith, nat_tests), λ n. grind (arith, nat_tests))

-- 01, the import test: "Exempt exactly when a window counts and 4 x loss is below its MWh"
pub exempt-exactly : (h : History) → (import_test h ≡ Ok true → Consistent h × Exempts h) × (Consistent h × Exempts h → import_test h ≡ Ok true)
unfolding contradict counted import_test
exempt-exactly h = (λ e. grind (arith, nat_tests), λ w. grind (arith, nat_tests))

-- the contract leaves one answer
pub determined : (h : History) (r s : Answer) → r ≡ import_test h → s ≡ import_test h → r ≡ s
determined h r s p q = p ∙ sym q
