-- `Book::apply`: the walk has seen the places from `i` on (proofs/Walked.antt).
use Rattle.book.proofs.Walked.{Walked}
use Rattle.book.proofs.types.Book.apply.Given as goal

abbrev pub invariant-loop-i : goal.invariant-loop-i
invariant-loop-i l = Walked l.key l.next.records l.codes l.walk l.i
