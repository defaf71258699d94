-- The two walks of a close: what the places passed bring to the batch, and the places that are written.
-- Assumes nothing.
use mathlib.Core.Path.{◌≡◌, refl, sym, ap, ◌∙◌}
use mathlib.Core.Bool.{Bool, true, false, cond, ◌&&◌}
use mathlib.Core.List.{List, [], ◌∷◌, ◌++◌, map}
use Prim.Native.Nat.{ℕ, suc, ◌+◌, ◌-◌, ◌<◌, ◌≤◌}
use native.Mathlib.Omega.{arith}
use native.Mathlib.Nat.{le_refl}
use lib.IntN.{ℤ, +ℤ_comm}
use lib.ListN.{length, get_or, take, drop, set, length-map}
use Rattle.std.proofs.Common.{length-append, append-nil}
use Rattle.std.proofs.lemmas.List.{take_more, take_all, drop_all, length-take, length-take-le, length-drop, get_or_default, get_or-append_right, get_or-drop}
use Rattle.std.proofs.lemmas.List.Edits.{map_over_more}
use Rattle.amounts.specs.Lists.{sum, every}
use Rattle.amounts.proofs.Sums.{total-push}
use Rattle.distinct.specs.Numbers.{stands_in}
use Rattle.closings.proofs.Listing.{every-at}
use Rattle.records.specs.declared.types.Record.{Record}
use Rattle.records.specs.Records.{blank, is_pending, ok_place}
use Rattle.records.proofs.Places.{ok-blank}
use Rattle.batches.specs.Batches.{pending_paths, among, brings, batch_cents}
use Rattle.batches.specs.Closing.{Batch, nothing, more, seen, Light}
use Rattle.batches.proofs.Laws.{batch-most}

pub sane-at : (rs : List Record) → every ok_place rs ≡ true → (k : ℕ) → ok_place (get_or rs k blank) ≡ true
sane-at rs h k = every-at (λ (r : Record). ok_place r ≡ true) ok_place blank ok-blank (λ r e. e) rs h k

-- ---- what the places bring, one by one from the last
module _ (hour : ℕ) (paths : List ℕ) (prices : List ℤ) where
  -- one place more, before the others
  count_by : (n : ℕ) (p : ℕ) (ps : List ℕ) (b : Bool) → n ≡ length ps → cond b (n + 1) n ≡ length (cond b (p ∷ ps) ps)
  count_by n p ps true e = omega arith
  count_by n p ps false e = e

  listed_by : (p : ℕ) (ps : List ℕ) (b : Bool) → cond b (stands_in p paths && among ps paths) (among ps paths) ≡ among (cond b (p ∷ ps) ps) paths
  unfolding every
  listed_by p ps true = refl
  listed_by p ps false = refl

  pub seen_more : (r : Record) (rs : List Record) → more hour paths prices (seen hour paths prices rs) r ≡ seen hour paths prices (r ∷ rs)
  unfolding more pending_paths batch_cents sum
  seen_more r rs =
      let b = is_pending hour r in
      λ i. record {
        count = count_by (length (pending_paths hour rs)) r.key.path (pending_paths hour rs) b refl i;
        listed = listed_by r.key.path (pending_paths hour rs) b i;
        cents = +ℤ_comm (batch_cents hour paths prices rs) (brings hour paths prices r) i;
      }

  -- and after the others
  pending-by : (p : ℕ) (ps qs : List ℕ) (b : Bool) → cond b (p ∷ (ps ++ qs)) (ps ++ qs) ≡ cond b (p ∷ ps) ps ++ qs
  pending-by p ps qs true = refl
  pending-by p ps qs false = refl

  pending-push : (rs : List Record) (r : Record) → pending_paths hour (rs ++ (r ∷ [])) ≡ pending_paths hour rs ++ cond (is_pending hour r) (r.key.path ∷ []) []
  unfolding pending_paths
  pending-push [] r = refl
  pending-push (x ∷ xs) r =
      ap (λ (ps : List ℕ). cond (is_pending hour x) (x.key.path ∷ ps) ps) (pending-push xs r)
      ∙ pending-by x.key.path (pending_paths hour xs) (cond (is_pending hour r) (r.key.path ∷ []) []) (is_pending hour x)

  count-by : (p : ℕ) (ps : List ℕ) (b : Bool) → length (ps ++ cond b (p ∷ []) []) ≡ cond b (length ps + 1) (length ps)
  count-by p ps true = length-append ps (p ∷ [])
  count-by p ps false = ap length (append-nil ps)

  among-push : (p : ℕ) (ps : List ℕ) → among (ps ++ (p ∷ [])) paths ≡ (stands_in p paths && among ps paths)
  unfolding every
  among-push p [] = refl
  among-push p (q ∷ qs) = ap (λ (b : Bool). stands_in q paths && b) (among-push p qs) ∙ swapped (stands_in q paths) (stands_in p paths) (among qs paths)
    where
      swapped : (a b c : Bool) → (a && (b && c)) ≡ (b && (a && c))
      swapped true b c = refl
      swapped false true c = refl
      swapped false false c = refl

  listed-by : (p : ℕ) (ps : List ℕ) (b : Bool) → among (ps ++ cond b (p ∷ []) []) paths ≡ cond b (stands_in p paths && among ps paths) (among ps paths)
  listed-by p ps true = among-push p ps
  listed-by p ps false = ap (λ (qs : List ℕ). among qs paths) (append-nil ps)

  pub seen-push : (rs : List Record) (r : Record) → seen hour paths prices (rs ++ (r ∷ [])) ≡ more hour paths prices (seen hour paths prices rs) r
  unfolding more batch_cents
  seen-push rs r =
      let b = is_pending hour r in
      let ps = pending_paths hour rs in
      let pushed = pending-push rs r in
      λ i. record {
        count = (ap length pushed ∙ count-by r.key.path ps b) i;
        listed = (ap (λ (qs : List ℕ). among qs paths) pushed ∙ listed-by r.key.path ps b) i;
        cents = total-push (brings hour paths prices) rs r i;
      }

  few-by : (p : ℕ) (ps : List ℕ) (n : ℕ) (b : Bool) → length ps ≤ n → length (cond b (p ∷ ps) ps) ≤ suc n
  few-by p ps n true h = omega arith
  few-by p ps n false h = omega arith

  pub pending-few : (rs : List Record) → length (pending_paths hour rs) ≤ length rs
  unfolding pending_paths
  pending-few [] = omega arith
  pending-few (r ∷ rs) = few-by r.key.path (pending_paths hour rs) (length rs) (is_pending hour r) (pending-few rs)

  pub seen-light : (rs : List Record) → length rs ≤ 255 → Light (seen hour paths prices rs)
  seen-light rs few =
      let all = batch-most hour paths prices rs in
      record { count = omega (arith, pending-few rs); cents = omega (arith, all.low, all.high) }

-- ---- the first walk: the places before i are seen
pub record Passed (hour : ℕ) (paths : List ℕ) (prices : List ℤ) (rs : List Record) (s : Batch) (i : ℕ) : Type 0 where
  pub is : s ≡ seen hour paths prices (take i rs)

module _ (hour : ℕ) (paths : List ℕ) (prices : List ℤ) (rs : List Record) (size : length rs ≡ 256) where
  pub passed_none : (s : Batch) → s ≡ nothing → Passed hour paths prices rs s 0
  unfolding pending_paths every batch_cents sum
  passed_none s e = record { is = e }

  module _ (s : Batch) (i : ℕ) (some : i < 256) (p : Passed hour paths prices rs s i) where
    pub passed-light : Light s
    passed-light = rw p.is (seen-light hour paths prices (take i rs) (omega (arith, length-take i rs)))

    pub passed-more : (t : Batch) → t ≡ more hour paths prices s (get_or rs i blank) → Passed hour paths prices rs t (i + 1)
    passed-more t e =
        let r = get_or rs i blank in
        record {
          is = e ∙ ap (λ (x : Batch). more hour paths prices x r) p.is ∙ sym (seen-push hour paths prices (take i rs) r)
              ∙ ap (seen hour paths prices) (sym (take_more rs i blank (omega (arith, size))));
        }

  pub passed_all : (s : Batch) → Passed hour paths prices rs s 256 → s ≡ seen hour paths prices rs
  passed_all s p = p.is ∙ ap (seen hour paths prices) (take_all 256 rs (omega (arith, size)))

-- ---- the second walk: the places before i are written
pub record Done (g : Record → Record) (rs made : List Record) (i : ℕ) : Type 0 where
  pub is : made ≡ map g (take i rs) ++ drop i rs

module _ (g : Record → Record) (rs : List Record) (size : length rs ≡ 256) where
  pub done_none : Done g rs rs 0
  done_none = record { is = refl }

  module _ (made : List Record) (i : ℕ) (some : i < 256) (d : Done g rs made i) where
    -- what stands at the place at hand is still as it was
    pub done-here : get_or made i blank ≡ get_or rs i blank
    done-here =
        let before : length (map g (take i rs)) ≡ i = length-map (take i rs) g ∙ length-take-le i rs (omega (arith, size)) in
        let zeroth : i - i ≡ 0 = omega arith in
        let plus : i + 0 ≡ i = omega arith in
        ap (λ (l : List Record). get_or l i blank) d.is ∙ get_or-append_right (map g (take i rs)) (drop i rs) i i blank before (le_refl i)
        ∙ ap (λ (n : ℕ). get_or (drop i rs) n blank) zeroth ∙ get_or-drop i rs 0 blank ∙ ap (λ (n : ℕ). get_or rs n blank) plus

    within : i < length made
    within = let long : length made ≡ length (map g (take i rs)) + length (drop i rs) = ap length d.is ∙ length-append (map g (take i rs)) (drop i rs) in
        omega (arith, length-map (take i rs) g, length-take i rs, length-drop i rs)

    pub done_more : (new : Record) → new ≡ g (get_or made i blank) → Done g rs (set made i new) (i + 1)
    done_more new e =
        record {
          is = ap (set made i) e ∙ map_over_more g rs made i (get_or made i blank) (omega (arith, size)) d.is (get_or_default made i blank (get_or made i blank) within);
        }

  pub done_all : (made : List Record) → Done g rs made 256 → made ≡ map g rs
  done_all made d =
      d.is ∙ (λ j. map g (take_all 256 rs (omega (arith, size)) j) ++ drop_all 256 rs (omega (arith, size)) j) ∙ append-nil (map g rs)
