-- `Listing::place`: an entry of the table is one more than the path's place, or 0.
use Rattle.batches.proofs.Entries.{place-listed, place-is}
use Rattle.batches.proofs.batch.Listing.place.Goals as goal

pub returns-clause-listed : goal.returns-clause-listed
returns-clause-listed c =
    let s = c.args.self in
    place-listed s.paths.now s.places.now s.prices.now c.args.r c.requires s.lists s.prices_len c.checked_sub.result c.checked_sub.ensures

pub returns-clause-place : goal.returns-clause-place
returns-clause-place c =
    let s = c.args.self in
    place-is s.paths.now s.places.now s.prices.now c.args.r c.requires s.lists s.prices_len c.checked_sub.result c.checked_sub.ensures
