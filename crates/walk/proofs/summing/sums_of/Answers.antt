-- `sums_of`: a step over the place at hand.
use Rattle.std.proofs.Common.{◌≡◌, ℕ, length}
use mathlib.Core.Path.{sym, ◌∙◌, subst}
use native.Mathlib.Omega.{arith}
use Rattle.credit.proofs.Parts.{sums-wider}
use Rattle.walk.proofs.Summed.{Summed, begun, none_in, light, more, ended}
use Rattle.walk.proofs.summing.sums_of.Goals as goal

pub loop-record-init : goal.loop-record-init
loop-record-init c = begun c.args.records c.none-sums.result c.none-sums.ensures

pub returns-then-not-is_sound : goal.returns-then-not-is_sound
returns-then-not-is_sound c =
    let few : length c.args.records ≡ 256 = omega arith in
    c.none.ensures
    ∙ none_in c.args.records few c.loop-record.record-index c.loop-record-test.true (sym c.is_sound.ensures ∙ c.if-not-is_sound.true)

pub with-sums-requires-clause-sums_within : goal.with-sums-requires-clause-sums_within
with-sums-requires-clause-sums_within c =
    let few : length c.args.records ≡ 256 = omega arith in
    sums-wider c.loop-record.sums (light c.args.records few c.loop-record.record-index c.loop-record-test.true c.loop-record.sums c.loop-record.invariant) (omega arith)

pub loop-record-preserved : goal.loop-record-preserved
loop-record-preserved c =
    let few : length c.args.records ≡ 256 = omega arith in
    more c.args.records few c.loop-record.record-index c.loop-record-test.true c.loop-record.sums c.loop-record.invariant (sym c.is_sound.ensures ∙ c.if-not-is_sound.false) c.with-sums.result c.with-sums.ensures

pub returns : goal.returns
returns c =
    let few : length c.args.records ≡ 256 = omega arith in
    let z : c.loop-record.record-index ≡ 256 = omega arith in
    ended c.args.records few c.loop-record.sums (subst (λ (n : ℕ). Summed c.args.records c.loop-record.sums n) z c.loop-record.invariant)
