-- `Book::fresh`: by the one test of the support.
use mathlib.Core.Path.{◌∙◌, sym, ap}
use lib.IntN.{pos}
use mir.Facts.{to_z-of_z}
use Rattle.amounts.specs.Limits.{is_support}
use Rattle.book.specs.Books.{empty}
use Rattle.refusals.specs.declared.Answer.TheVariants.{Accepted, Refused}
use Rattle.book.specs.Step.{fresh}
use Rattle.book.proofs.types.Book.fresh.Goals as goal

pub returns-then-is_support : goal.returns-then-is_support
unfolding fresh
returns-then-is_support c =
    let told = c.is_support.ensures ∙ ap is_support (to_z-of_z c.ranges.support) in
    let e = c.empty.ensures ∙ ap empty (to_z-of_z c.ranges.support) in
    rw (sym told ∙ c.if-is_support.true) (λ i. record { book = e i; answer = Accepted (pos 0) (pos 0) (pos 0) })

pub returns : goal.returns
unfolding fresh
returns c =
    let told = c.is_support.ensures ∙ ap is_support (to_z-of_z c.ranges.support) in
    rw (sym told ∙ c.if-is_support.false) (λ i. record { book = c.empty-2.ensures i; answer = Refused (c.number.ensures i) (pos 0) (pos 0) })
