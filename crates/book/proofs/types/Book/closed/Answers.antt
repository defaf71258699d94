-- `Book::closed`: the close of its places is its step (proofs/Closed.antt).
use mathlib.Core.Path.{◌≡◌, ap, ◌∙◌}
use lib.ListN.{length}
use borrow.Author.Rules.{rules}
use Rattle.book.specs.Books.{totals}
use Rattle.book.proofs.Kept.{sound-places, sound-distinct}
use Rattle.book.proofs.Batched.{pending-once}
use Rattle.book.proofs.Written.{totals-small}
use Rattle.book.proofs.Closed.{closed_book, closed_is}
use Rattle.book.proofs.types.Book.closed.Goals as goal

pub close-answer-requires-clause-records_value : goal.close-answer-requires-clause-records_value
close-answer-requires-clause-records_value c = sound-places c.args.self c.requires.self_value

pub close-answer-requires-clause-records_value_2 : goal.close-answer-requires-clause-records_value_2
close-answer-requires-clause-records_value_2 c = pending-once c.args.hour c.args.self.records (sound-distinct c.args.self c.requires.self_value)

pub close-answer-requires-clause-within : goal.close-answer-requires-clause-within
unfolding totals
close-answer-requires-clause-within c =
    let few : length c.args.self.records ≡ 256 = search rules in
    (totals-small c.args.self c.requires.self_value few).held

pub returns : goal.returns
returns c = ap closed_book c.close-answer.ensures ∙ closed_is c.args.self c.args.hour c.args.paths.now c.args.prices.now c.requires.self_value
