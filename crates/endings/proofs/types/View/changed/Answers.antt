-- `View::changed`: a blank record is in range.
use mathlib.Core.Path.{◌∙◌, ap}
use Rattle.records.specs.Records.{ok_place}
use Rattle.records.proofs.Places.{ok-blank}
use Rattle.endings.proofs.types.View.changed.Goals as goal

pub put-requires-clause-was_value : goal.put-requires-clause-was_value
put-requires-clause-was_value c = ap ok_place c.blank.ensures ∙ ok-blank

pub put-requires-in-Remove-clause-value : goal.put-requires-in-Remove-clause-value
put-requires-in-Remove-clause-value c = ap ok_place c.blank-in-Remove.ensures ∙ ok-blank

pub put-requires-in-AddPending-clause-was_value : goal.put-requires-in-AddPending-clause-was_value
put-requires-in-AddPending-clause-was_value c = ap ok_place c.blank-in-AddPending.ensures ∙ ok-blank
