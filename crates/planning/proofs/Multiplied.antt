-- The formulas' law on multiplied MWh; and an accepted open or revise answers the bid requirement of its points (demand 2).
-- Assumes nothing.
use mathlib.Core.Path.{◌≡◌, refl, sym, ap, ◌∙◌}
use mathlib.Core.List.{List}
use Prim.Native.Nat.{ℕ}
use lib.IntN.{ℤ, pos, ◌*ℤ◌}
use Rattle.bids.specs.Bids.{bid_requirement}
use Rattle.bids.proofs.Lists.{curve-of}
use Rattle.bids.proofs.Multiples.{multiple-requirement, multiple-rows}
use Rattle.records.specs.declared.types.Record.{Record}
use Rattle.messages.specs.declared.types.Opening.{Opening}
use Rattle.messages.specs.declared.types.Message.TheVariants.{Open, Revise}
use Rattle.book.specs.declared.types.Book.{Book}
use Rattle.demands.proofs.Two.{demand-two}
use Rattle.planning.specs.Points.{Point, mwhs_of, prices_of, multiplied}
use Rattle.planning.specs.Multiplied.{Answers, OneCurve, Multiplied}

-- the bid requirement of these points
abbrev asks : Opening → List Point → ℤ
asks o points = bid_requirement o.key.kind points o.differential o.exempt

module _ (o : Opening) (b : Book) (points : List Point) {cents : ℤ} where
  answered-open : Answers b (Open o) points cents → cents ≡ asks o points
  answered-open h =
      let a = (demand-two b (Open o) (mwhs_of points) (prices_of points)).accepted h.accepted in
      sym h.requirement ∙ a.requirement refl ∙ ap (λ (r : Record). r.requirement) a.sets ∙ ap (asks o) (curve-of points)

  answered-revise : Answers b (Revise o) points cents → cents ≡ asks o points
  answered-revise h =
      let a = (demand-two b (Revise o) (mwhs_of points) (prices_of points)).accepted h.accepted in
      sym h.requirement ∙ a.requirement refl ∙ ap (λ (r : Record). r.requirement) a.sets ∙ ap (asks o) (curve-of points)

-- of these points, and of as many times their MWh
module _ (o : Opening) (n : ℕ) (points : List Point) (kind : OneCurve o n points) where
  law : asks o (multiplied n points) ≡ pos n *ℤ asks o points
  law = multiple-requirement o.key.kind n points o.differential o.exempt kind

  law-of : {few many : ℤ} → few ≡ asks o points → many ≡ asks o (multiplied n points) → many ≡ pos n *ℤ few
  law-of e f = f ∙ law ∙ ap (λ (z : ℤ). pos n *ℤ z) (sym e)

pub multiplied-bid : (o : Opening) (n : ℕ) (points : List Point) → Multiplied o n points
multiplied-bid o n points =
    record {
      requirement = law o n points;
      allowed = multiple-rows o.key.kind n points o.differential;
      opened = λ k {b} {c} a d. law-of o n points k (answered-open o b points a) (answered-open o c (multiplied n points) d);
      revised = λ k {b} {c} a d. law-of o n points k (answered-revise o b points a) (answered-revise o c (multiplied n points) d);
    }
