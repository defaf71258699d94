-- 02, order 3: '16 never for opening kind 5', nor for revising it: credit is not checked before the hour is closed. The theorem is order-three, proofs/OrderThree.antt.
-- Assumes nothing.
use Rattle.std.specs.Prelude.{◌≡◌, List, ℕ, ℤ}
use Rattle.messages.specs.declared.types.Curves.{Curves}
use Rattle.messages.specs.declared.types.Message.TheVariants.{OpenCurves, ReviseCurves}
use Rattle.book.specs.declared.types.Book.{Book}
use Rattle.demands.specs.Runs.{replied}

pub record OrderThree (b : Book) (c : Curves) (mwhs : List ℕ) (prices : List ℤ) : Type 0 where
  pub open_unchecked : (replied b (OpenCurves c) mwhs prices).number ≡ 16 → ⊥
  pub revise_unchecked : (replied b (ReviseCurves c) mwhs prices).number ≡ 16 → ⊥
