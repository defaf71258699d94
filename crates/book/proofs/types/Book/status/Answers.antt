-- `Book::status`: a support below 0 is refused by every book.
use mathlib.Core.Path.{◌∙◌, ap}
use Rattle.book.specs.Step.{Outcome}
use Rattle.book.proofs.Shown.{always-refused}
use Rattle.book.proofs.types.Book.status.Goals as goal

pub returns : goal.returns
returns c = ap (λ (o : Outcome). o.answer) c.support.ensures ∙ always-refused c.args.self
