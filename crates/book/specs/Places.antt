-- Lists of places: the first place that passes a test, and the list with that place overwritten.
-- Assumes nothing.
use Rattle.std.specs.Prelude.{Bool, true, false, cond, List, [], ◌∷◌}
use Rattle.std.proofs.Math.Option.{Option, none, some}

module _ {A : Type 0} where
  -- the first place that passes the test
  unfoldable pub find : (A → Bool) → List A → Option A
  find p [] = none
  find p (x ∷ xs) = cond (p x) (some x) (find p xs)

  -- the list with that place overwritten; as it was where no place passes
  unfoldable pub swap : (A → Bool) → A → List A → List A
  swap p new [] = []
  swap p new (x ∷ xs) = cond (p x) (new ∷ xs) (x ∷ swap p new xs)

  unfoldable pub missing : Option A → Bool
  missing none = true
  missing (some x) = false

  unfoldable pub or_else_blank : A → Option A → A
  or_else_blank blank none = blank
  or_else_blank blank (some x) = x
