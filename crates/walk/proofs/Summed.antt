-- A walk over all places: those passed are in range, and the sums are theirs.
-- Assumes nothing.
use mathlib.Core.Path.{◌≡◌, refl, sym, ap, ◌∙◌, subst}
use mathlib.Core.Bool.{Bool, true, false, cond}
use mathlib.Core.List.{List, [], ◌∷◌, ◌++◌}
use Prim.Native.Nat.{ℕ, ◌+◌, ◌<◌}
use native.Mathlib.Omega.{arith}
use lib.ListN.{length, get_or, take}
use Rattle.std.proofs.lemmas.List.{take_more, take_all, length-take}
use Rattle.amounts.specs.Lists.{sum, every}
use Rattle.amounts.proofs.Signed.{tested}
use Rattle.amounts.proofs.Sums.{total-push}
use Rattle.refusals.proofs.Laws.{and_left, and_right, and_both, never}
use Rattle.records.specs.declared.types.Record.{Record}
use Rattle.records.specs.Records.{blank, ok_place}
use Rattle.records.proofs.Places.{ok-blank}
use Rattle.credit.specs.declared.types.Sums.{Sums}
use Rattle.credit.specs.Credit.{owes}
use Rattle.credit.specs.Sums.{unbilled_of, no_sums, sums_of, with_record}
use Rattle.credit.specs.NoOverflow.{SumsWithin}
use Rattle.walk.specs.Summing.{sums_in}
use Rattle.walk.proofs.Sums.{sums-within, every_get}

-- one element more
every_push : {A : Type 0} (p : A → Bool) (xs : List A) (x : A) → every p xs ≡ true → p x ≡ true → every p (xs ++ (x ∷ [])) ≡ true
unfolding every
every_push p [] x e h = and_both (p x) true h refl
every_push p (y ∷ ys) x e h = and_both (p y) (every p (ys ++ (x ∷ []))) (and_left (p y) (every p ys) e) (every_push p ys x (and_right (p y) (every p ys) e) h)

sums-push : (rs : List Record) (r : Record) → sums_of (rs ++ (r ∷ [])) ≡ with_record (sums_of rs) r
sums-push rs r = λ i. record { unbilled = total-push unbilled_of rs r i; owed = total-push owes rs r i }

pub record Summed (rs : List Record) (s : Sums) (i : ℕ) : Type 0 where
  pub fine : every ok_place (take i rs) ≡ true
  pub sums : s ≡ sums_of (take i rs)

-- before the first place
pub begun : (rs : List Record) (s : Sums) → s ≡ no_sums → Summed rs s 0
unfolding every sum
begun rs s e = record { fine = refl; sums = e }

-- the place at hand, and those before it
module _ (rs : List Record) (few : length rs ≡ 256) (i : ℕ) (h : i < 256) where
  abbrev here : Record
  here = get_or rs i blank

  pub none_in : ok_place here ≡ false → no_sums ≡ sums_in rs
  unfolding sums_in
  none_in bad =
      tested (every ok_place rs)
      (λ e. never (sym bad ∙ every_get ok_place rs i ok-blank e))
      (λ e. sym (ap (λ (t : Bool). cond t (sums_of rs) no_sums) e))

  module _ (s : Sums) (w : Summed rs s i) where
    pub light : SumsWithin 332800000000000 s
    light = subst (SumsWithin 332800000000000) (sym w.sums) (sums-within (take i rs) w.fine (omega (arith, few, length-take i rs)))

    pub more : ok_place here ≡ true → (t : Sums) → t ≡ with_record s here → Summed rs t (i + 1)
    more ok t e =
        let one : take (i + 1) rs ≡ take i rs ++ (here ∷ []) = take_more rs i blank (omega (arith, few)) in
        record {
          fine = ap (every ok_place) one ∙ every_push ok_place (take i rs) here w.fine ok;
          sums = e ∙ ap (λ (x : Sums). with_record x here) w.sums ∙ sym (sums-push (take i rs) here) ∙ ap sums_of (sym one);
        }

-- past the last place
pub ended : (rs : List Record) → length rs ≡ 256 → (s : Sums) → Summed rs s 256 → s ≡ sums_in rs
unfolding sums_in
ended rs few s w =
    let all : take 256 rs ≡ rs = take_all 256 rs (omega (arith, few)) in
    w.sums ∙ ap sums_of all ∙ ap (λ (t : Bool). cond t (sums_of rs) no_sums) (sym (sym (ap (every ok_place) all) ∙ w.fine))
