-- `Book::apply`: the walk has seen all places (proofs/Walked.antt), and the ending, written, is the step (proofs/Written.antt).
use native.Mathlib.Omega.{arith}
use mathlib.Core.Path.{◌≡◌, refl, sym, ◌∙◌, subst}
use mathlib.Core.Bool.{true}
use Prim.Native.Nat.{ℕ, ◌<◌, ◌≤◌, ◌-◌}
use lib.IntN.{pos}
use lib.ListN.{length, get_or, set, replicate}
use Rattle.refusals.specs.declared.Answer.TheVariants.{Refused}
use Rattle.records.specs.Records.{blank, ok_place}
use mathlib.Core.List.{List}
use Rattle.keys.specs.declared.Key.{Key}
use Rattle.records.specs.declared.types.Record.{Record}
use Rattle.endings.specs.declared.types.Left.{Left}
use Rattle.endings.specs.declared.types.Left.TheVariants.{Nothing, Put, Batch}
use Rattle.walk.specs.declared.types.Walk.{Walk}
use Rattle.credit.proofs.Parts.{sums-wider}
use Rattle.book.proofs.Codes.{unsound-by}
use Rattle.book.proofs.Walked.{Walked, begun, light, walked_more, out_of_range}
use Rattle.book.proofs.Written.{unsound-step}
use borrow.Author.Rules.{rules}
use Rattle.book.proofs.Applied.{Carried, summable-so, ended-so}
use Rattle.book.proofs.types.Book.apply.Goals.{After-ending-ending, in-Nothing, in-Put}
use Rattle.book.proofs.types.Book.apply.Goals as goal

pub loop-i-init : goal.loop-i-init
loop-i-init c =
    let few : length c.args.self.records ≡ 256 = search rules in
    subst (λ (x : Walk). Walked c.key_of-key.result c.args.self.records (replicate 256 0) x 256) (sym c.nothing-walk.ensures)
    (begun c.key_of-key.result c.args.self.records (replicate 256 0) few refl)

-- a place is out of range
pub returns-then-not-is_sound : goal.returns-then-not-is_sound
returns-then-not-is_sound c =
    let l = c.loop-i in
    let b = c.args.self in
    let few : length b.records ≡ 256 = search rules in
    let bad = sym c.is_sound.ensures ∙ c.if-not-is_sound.true in
    (λ i. record { book = b; answer = Refused (c.number.ensures i) (pos 0) (pos 0) })
    ∙ sym
    (unsound-step b c.args.message c.args.mwh.now c.args.prices.now
    (unsound-by b (out_of_range c.key_of-key.result b.records l.codes l.walk l.i _ few c.loop-i-test.true l.invariant refl bad)))

pub with-walk-requires-clause-sums_within : goal.with-walk-requires-clause-sums_within
with-walk-requires-clause-sums_within c =
    let l = c.loop-i in
    let few : length c.args.self.records ≡ 256 = search rules in
    sums-wider l.walk.sums (light _ c.args.self.records l.codes l.walk l.i few l.invariant) (omega arith)

-- or it is in range
pub loop-i-preserved : goal.loop-i-preserved
loop-i-preserved c =
    let l = c.loop-i in
    let key = c.key_of-key.result in
    let rs = c.args.self.records in
    let few : length rs ≡ 256 = search rules in
    let codes = set l.codes (l.i - 1) c.code.result in
    let fine : ok_place (get_or rs (l.i - 1) blank) ≡ true = sym c.is_sound.ensures ∙ c.if-not-is_sound.false in
    subst (λ (x : Walk). Walked key rs codes x (l.i - 1)) (sym c.with-walk.ensures)
    (walked_more key rs l.codes l.walk l.i c.code.result few c.loop-i-test.true l.invariant c.code.ensures fine)

-- the walk is at its end
all : (key : Key) (rs : List Record) (codes : List ℕ) (walk : Walk) (i : ℕ) → i ≤ 0 → Walked key rs codes walk i → Walked key rs codes walk 0
all key rs codes walk i end w =
    let z : i ≡ 0 = omega (arith, end) in
    subst (Walked key rs codes walk) z w

pub of-view-requires : goal.of-view-requires
of-view-requires c =
    let few : length c.args.self.records ≡ 256 = search rules in
    light c.key_of-key.result c.args.self.records c.loop-i.codes c.loop-i.walk c.loop-i.i few c.loop-i.invariant

pub ending-ending-requires : goal.ending-ending-requires
ending-ending-requires c =
    summable-so c.args.self c.args.message c.args.mwh.now c.args.prices.now c.key_of-key.result c.key_of-key.ensures c.loop-i.codes c.loop-i.walk (search rules)
    (all c.key_of-key.result c.args.self.records c.loop-i.codes c.loop-i.walk c.loop-i.i c.loop-i-test.false c.loop-i.invariant)
    c.old-old.result c.old-old.ensures c.of-view.result c.of-view.ensures c.plan_of.result c.plan_of.ensures

-- by what the ending leaves
ended-by : (c : After-ending-ending) → (left : Left) → c.ending-ending.result.left ≡ left
    → Carried c.args.self c.args.message c.args.mwh.now c.args.prices.now c.ending-ending.result left
ended-by c left is =
    ended-so c.args.self c.args.message c.args.mwh.now c.args.prices.now c.key_of-key.result c.key_of-key.ensures c.loop-i.codes c.loop-i.walk (search rules)
    (all c.key_of-key.result c.args.self.records c.loop-i.codes c.loop-i.walk c.loop-i.i c.loop-i-test.false c.loop-i.invariant)
    c.old-old.result c.old-old.ensures c.of-view.result c.of-view.ensures c.plan_of.result c.plan_of.ensures
    c.ending-ending.result c.ending-ending.ensures left is

pub bounds-next-place : goal.bounds-next-place
bounds-next-place c = (ended-by (goal.at.bounds-next-place c).After-ending-ending (Put c.in-Put.place c.in-Put.new) c.in-Put.is).fitting

pub offset_bounds-next-place : goal.offset_bounds-next-place
offset_bounds-next-place c =
    let one : c.in-Put.place < 256 = (ended-by (goal.at.offset_bounds-next-place c).After-ending-ending (Put c.in-Put.place c.in-Put.new) c.in-Put.is).fitting in
    omega (arith, one)

pub closed-requires-clause-self_value : goal.closed-requires-clause-self_value
closed-requires-clause-self_value c = (ended-by (goal.at.closed-requires-clause-self_value c).After-ending-ending (Batch c.in-Batch.hour) c.in-Batch.is).handed.sane

pub closed-requires-clause-none : goal.closed-requires-clause-none
closed-requires-clause-none c = (ended-by (goal.at.closed-requires-clause-none c).After-ending-ending (Batch c.in-Batch.hour) c.in-Batch.is).handed.passed

pub returns-in-Batch : goal.returns-in-Batch
returns-in-Batch c = c.closed.ensures ∙ sym (ended-by (goal.at.returns-in-Batch c).After-ending-ending (Batch c.in-Batch.hour) c.in-Batch.is).handed.goes

pub returns : goal.returns
returns c =
    let e = c.ending-ending.result in
    elim c.match-ending.branch [
      | in-Nothing w ↦ (λ i. record { book = record { records = (w.next-is i).records; account = e.account }; answer = e.answer })
          ∙ (ended-by (goal.at.returns c).After-ending-ending Nothing w.in-Nothing.is).goes tt
      | in-Put w ↦ (λ i. record { book = record { records = (w.next-is i).records; account = e.account }; answer = e.answer })
          ∙ (ended-by (goal.at.returns c).After-ending-ending (Put w.in-Put.place w.in-Put.new) w.in-Put.is).goes tt
    ]
