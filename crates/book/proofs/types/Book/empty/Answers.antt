-- `Book::empty`: 256 free places.
use lib.ListN.{replicate}
use mathlib.Core.Path.{◌∙◌, ap}
use mir.Facts.{to_z-of_z}
use Rattle.credit.specs.Account.{fresh_account}
use Rattle.book.specs.Books.{no_records}
use Rattle.book.proofs.types.Book.empty.Goals as goal

pub returns : goal.returns
unfolding no_records
returns c = λ i. record { records = replicate 256 (c.blank.ensures i); account = (c.fresh.ensures ∙ ap fresh_account (to_z-of_z c.ranges.support)) i }
