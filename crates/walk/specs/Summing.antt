-- For the code's own steps alone: the sums of all places, or nothing. Nothing here is the paper's: crate `book`, specs/Books.antt, says what a rebuilt book is.
-- Assumes nothing.
use Rattle.std.specs.Prelude.{cond, List}
use Rattle.amounts.specs.Lists.{every}
use Rattle.records.specs.declared.types.Record.{Record}
use Rattle.records.specs.Records.{ok_place}
use Rattle.credit.specs.declared.types.Sums.{Sums}
use Rattle.credit.specs.Sums.{no_sums, sums_of}

unfoldable pub sums_in : List Record → Sums
sums_in places = cond (every ok_place places) (sums_of places) no_sums
