-- `Listing::cents`: at the prices of the path's place, or 0 where it is not listed.
use mathlib.Core.Path.{ap, ◌∙◌}
use native.Mathlib.Omega.{arith}
use Rattle.amounts.proofs.Steps.{back, known, answer}
use Rattle.refusals.specs.Figures.{cents_of}
use Rattle.closings.specs.declared.types.Quote.{Quote}
use Rattle.closings.specs.Closings.{closed_verdict}
use Rattle.batches.proofs.Laws.{closed-for-range}
use Rattle.batches.proofs.Entries.{none-cents, some-cents}
use Rattle.batches.proofs.batch.Listing.cents.Goals as goal

pub returns-in-None : goal.returns-in-None
returns-in-None c =
    let s = c.args.self in
    (none-cents s.paths.now s.places.now s.prices.now c.args.r c.requires s.lists s.prices_len c.in-None.ensures.listed, omega arith)

pub returns-in-Some : goal.returns-in-Some
returns-in-Some c =
    let s = c.args.self in
    let r = c.args.r in
    let is =
    back c.cents_or_zero.result c.cents_or_zero.type_inv ∙ c.cents_or_zero.ensures ∙ ap cents_of c.closed.ensures
    ∙ ap (λ (q : Quote). cents_of (closed_verdict r.intervals q)) c.quote_at.ensures
    ∙ some-cents s.paths.now s.places.now s.prices.now r c.requires s.lists s.prices_len c.in-Some.place c.in-Some.ensures.place in
    answer (known is (closed-for-range s.paths.now s.prices.now r)) tt tt
