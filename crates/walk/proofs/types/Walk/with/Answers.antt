-- `Walk::with`: a free place is blank, so it adds nothing; else one record more.
use mathlib.Core.Path.{◌≡◌, sym, ap, ◌∙◌}
use mathlib.Core.Bool.{Bool, true, false, cond}
use Prim.Native.Nat.{ℕ}
use Rattle.keys.specs.declared.Key.{Key}
use Rattle.records.specs.declared.types.Record.{Record}
use Rattle.records.specs.Records.{blank, is_free, at as at_key, ok_place}
use Rattle.records.proofs.Places.{place-free, free-at}
use Rattle.credit.specs.Sums.{with_record}
use Rattle.credit.proofs.Parts.{with-blank}
use Rattle.std.specs.Prelude.{Some}
use Rattle.walk.specs.Walk.{Walk, more}
use Rattle.walk.proofs.types.Walk.with.Goals as goal

module _ (s : Walk) (r : Record) (k : Key) (n : ℕ) where
  more-used : is_free r ≡ false → record { sums = with_record s.sums r; free = s.free; at = cond (at_key k r) (Some n) s.at } ≡ more s r k n
  unfolding more
  more-used used = λ i. record { sums = with_record s.sums r; free = cond (sym used i) (Some n) s.free; at = cond (at_key k r) (Some n) s.at }

  more-free : ok_place r ≡ true → is_free r ≡ true → record { sums = s.sums; free = Some n; at = s.at } ≡ more s r k n
  unfolding more
  more-free ok free =
      let none : r ≡ blank = place-free r ok free in
      λ i. record {
        sums = (sym (with-blank s.sums) ∙ ap (with_record s.sums) (sym none)) i;
        free = ap (λ (b : Bool). cond b (Some n) s.free) (sym free) i;
        at = ap (λ (b : Bool). cond b (Some n) s.at) (sym (free-at k r free)) i;
      }

pub returns-then-is_free : goal.returns-then-is_free
returns-then-is_free c =
    let s = c in
    more-free s.args.self s.args.r s.args.key s.args.place s.requires.r_value (sym c.is_free.ensures ∙ c.if-is_free.true)

pub returns-then-is_at : goal.returns-then-is_at
returns-then-is_at c =
    let a = c.args in
    (λ i. record { sums = c.with.ensures i; free = a.self.free; at = cond ((sym c.if-is_at.true ∙ c.is_at.ensures) i) (Some a.place) a.self.at })
    ∙ more-used a.self a.r a.key a.place (sym c.is_free.ensures ∙ c.if-is_free.false)

pub returns-else-is_at : goal.returns-else-is_at
returns-else-is_at c =
    let a = c.args in
    (λ i. record { sums = c.with.ensures i; free = a.self.free; at = cond ((sym c.if-is_at.false ∙ c.is_at.ensures) i) (Some a.place) a.self.at })
    ∙ more-used a.self a.r a.key a.place (sym c.is_free.ensures ∙ c.if-is_free.false)
