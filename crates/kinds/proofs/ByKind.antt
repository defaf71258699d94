-- What a kind decides: which of the table's rows is taken.
-- Assumes nothing.
use mathlib.Core.Path.{◌≡◌, refl}
use mathlib.Core.Bool.{Bool, true, false, cond}
use Prim.Native.Nat.{ℕ}
use native.Mathlib.Omega.{arith}
use borrow.Author.Tests.{leb-true, eqb-true, eqb-false, ne_eqb}
use lib.Dec.{leb, eqb}
use Rattle.refusals.proofs.Laws.{and_left, and_right}
use Rattle.kinds.specs.Kinds.{Rules, import, export, hour_ahead, wheel, quarter_hour, virtual, last_kind, is_kind, by_kind, import_rules, export_rules, hour_ahead_rules, wheel_rules, quarter_hour_rules, virtual_rules, no_rules, rules_of}

module _ {X : Type 0} (P : X → Type 0) where
  by-test : (t : Bool) (x y : X) → (t ≡ true → P x) → (t ≡ false → P y) → P (cond t x y)
  by-test true x y f g = f refl
  by-test false x y f g = g refl

no_other : (kind : ℕ) → is_kind kind ≡ true → eqb kind import ≡ false → eqb kind export ≡ false → eqb kind hour_ahead ≡ false → eqb kind wheel ≡ false
    → eqb kind quarter_hour ≡ false → eqb kind virtual ≡ false → ⊥
no_other kind h n1 n2 n3 n4 n5 n6 =
    let low = leb-true import kind (and_left (leb import kind) (leb kind last_kind) h) in
    let high = leb-true kind last_kind (and_right (leb import kind) (leb kind last_kind) h) in
    omega (arith, eqb-false kind import n1, eqb-false kind export n2, eqb-false kind hour_ahead n3, eqb-false kind wheel n4, eqb-false kind quarter_hour n5, eqb-false kind virtual n6)

-- what holds of each kind's own holds of the one that is taken
pub by-kind : {X : Type 0} (P : X → Type 0) (kind : ℕ) (x y z w q u v : X) → is_kind kind ≡ true → (kind ≡ import → P x) → (kind ≡ export → P y) → (kind ≡ hour_ahead → P z)
    → (kind ≡ wheel → P w) → (kind ≡ quarter_hour → P q) → (kind ≡ virtual → P u) → P (by_kind kind x y z w q u v)
unfolding by_kind
by-kind P kind x y z w q u v h f1 f2 f3 f4 f5 f6 =
    by-test P (eqb kind import) x _ (λ e. f1 (eqb-true kind import e)) (λ n1.
    by-test P (eqb kind export) y _ (λ e. f2 (eqb-true kind export e)) (λ n2.
    by-test P (eqb kind hour_ahead) z _ (λ e. f3 (eqb-true kind hour_ahead e)) (λ n3.
    by-test P (eqb kind wheel) w _ (λ e. f4 (eqb-true kind wheel e)) (λ n4.
    by-test P (eqb kind quarter_hour) q _ (λ e. f5 (eqb-true kind quarter_hour e)) (λ n5.
    by-test P (eqb kind virtual) u v (λ e. f6 (eqb-true kind virtual e)) (λ n6. absurd (no_other kind h n1 n2 n3 n4 n5 n6)))))))

module _ {X : Type 0} (kind : ℕ) (x y z w q u v : X) where
  pub kind_1 : kind ≡ import → by_kind kind x y z w q u v ≡ x
  unfolding by_kind
  kind_1 e = rw e

  pub kind_2 : kind ≡ export → by_kind kind x y z w q u v ≡ y
  unfolding by_kind
  kind_2 e = rw e

  pub kind_3 : kind ≡ hour_ahead → by_kind kind x y z w q u v ≡ z
  unfolding by_kind
  kind_3 e = rw e

  pub kind-4 : kind ≡ wheel → by_kind kind x y z w q u v ≡ w
  unfolding by_kind
  kind-4 e = rw e

  pub kind-5 : kind ≡ quarter_hour → by_kind kind x y z w q u v ≡ q
  unfolding by_kind
  kind-5 e = rw e

  pub kind-6 : kind ≡ virtual → by_kind kind x y z w q u v ≡ u
  unfolding by_kind
  kind-6 e = rw e

  pub kind-none : (kind ≡ import → ⊥) → (kind ≡ export → ⊥) → (kind ≡ hour_ahead → ⊥) → (kind ≡ wheel → ⊥) → (kind ≡ quarter_hour → ⊥) → (kind ≡ virtual → ⊥) → by_kind kind x y z w q u v ≡ v
  unfolding by_kind
  kind-none n1 n2 n3 n4 n5 n6 = rw (ne_eqb kind import n1, ne_eqb kind export n2, ne_eqb kind hour_ahead n3, ne_eqb kind wheel n4, ne_eqb kind quarter_hour n5, ne_eqb kind virtual n6)

-- ---- the rows
module _ (kind : ℕ) where
  pub rules-1 : kind ≡ import → rules_of kind ≡ import_rules
  unfolding rules_of
  rules-1 e = kind_1 kind _ _ _ _ _ _ _ e

  pub rules-2 : kind ≡ export → rules_of kind ≡ export_rules
  unfolding rules_of
  rules-2 e = kind_2 kind _ _ _ _ _ _ _ e

  pub rules-3 : kind ≡ hour_ahead → rules_of kind ≡ hour_ahead_rules
  unfolding rules_of
  rules-3 e = kind_3 kind _ _ _ _ _ _ _ e

  pub rules-4 : kind ≡ wheel → rules_of kind ≡ wheel_rules
  unfolding rules_of
  rules-4 e = kind-4 kind _ _ _ _ _ _ _ e

  pub rules-5 : kind ≡ quarter_hour → rules_of kind ≡ quarter_hour_rules
  unfolding rules_of
  rules-5 e = kind-5 kind _ _ _ _ _ _ _ e

  pub rules-6 : kind ≡ virtual → rules_of kind ≡ virtual_rules
  unfolding rules_of
  rules-6 e = kind-6 kind _ _ _ _ _ _ _ e

  pub rules-none : (kind ≡ import → ⊥) → (kind ≡ export → ⊥) → (kind ≡ hour_ahead → ⊥) → (kind ≡ wheel → ⊥) → (kind ≡ quarter_hour → ⊥) → (kind ≡ virtual → ⊥) → rules_of kind ≡ no_rules
  unfolding rules_of
  rules-none n1 n2 n3 n4 n5 n6 = kind-none kind _ _ _ _ _ _ _ n1 n2 n3 n4 n5 n6

  -- what holds of each kind's row holds of a kind's
  pub by-rules : (P : Rules → Type 0) → is_kind kind ≡ true → (kind ≡ import → P import_rules) → (kind ≡ export → P export_rules) → (kind ≡ hour_ahead → P hour_ahead_rules)
      → (kind ≡ wheel → P wheel_rules) → (kind ≡ quarter_hour → P quarter_hour_rules) → (kind ≡ virtual → P virtual_rules) → P (rules_of kind)
  unfolding rules_of
  by-rules P h f1 f2 f3 f4 f5 f6 = by-kind P kind import_rules export_rules hour_ahead_rules wheel_rules quarter_hour_rules virtual_rules no_rules h f1 f2 f3 f4 f5 f6

-- what holds of every row, also of the one that is no kind's
pub all-rules : (P : Rules → Type 0) → P import_rules → P export_rules → P hour_ahead_rules → P wheel_rules → P quarter_hour_rules → P virtual_rules → P no_rules → (kind : ℕ) → P (rules_of kind)
unfolding rules_of by_kind
all-rules P x y z w q u v kind =
    by-test P (eqb kind import) import_rules _ (λ e. x) (λ n1.
    by-test P (eqb kind export) export_rules _ (λ e. y) (λ n2.
    by-test P (eqb kind hour_ahead) hour_ahead_rules _ (λ e. z) (λ n3.
    by-test P (eqb kind wheel) wheel_rules _ (λ e. w) (λ n4.
    by-test P (eqb kind quarter_hour) quarter_hour_rules _ (λ e. q) (λ n5.
    by-test P (eqb kind virtual) virtual_rules no_rules (λ e. u) (λ n6. v))))))
