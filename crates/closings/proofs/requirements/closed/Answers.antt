-- `closed`: the rows of a close's bid, and the requirement that they leave.
use mathlib.Core.Path.{◌∙◌, ap}
use Rattle.std.proofs.Common.{rules}
use Rattle.amounts.proofs.Steps.{back, gave, kept}
use Rattle.refusals.specs.Refusals.{accept}
use Rattle.refusals.proofs.Laws.{handed_on, refused_too, accepted_too, none_applied}
use Rattle.closings.specs.Closings.{quarter_up, closed_requirement, closed_rows, closed_verdict}
use Rattle.closings.proofs.Laws.{closed-rows-numbered}
use Rattle.closings.proofs.requirements.closed.Goals as goal

pub returns-in_err-check_closed : goal.returns-in_err-check_closed
unfolding closed_verdict
returns-in_err-check_closed c =
    handed_on _ c.in_err-check_closed.field-0.0 (search rules) ∙ refused_too (closed_rows c.args.sums c.args.quote) _ (tt {0}) _ c.in_err-check_closed.ensures

pub hour_cents-requires : goal.hour_cents-requires
hour_cents-requires c =
    let a = c.args in
    none_applied (closed_rows a.sums a.quote) (tt {0}) _ (closed-rows-numbered a.sums a.quote) c.in_ok-check_closed.ensures

pub returns : goal.returns
unfolding closed_requirement closed_verdict
returns c =
    let a = c.args in
    ap accept (back c.quarter_up.result c.quarter_up.type_inv ∙ c.quarter_up.ensures.0 ∙ ap quarter_up (kept (gave c.hour_cents.ensures) tt).is)
    ∙ accepted_too (closed_rows a.sums a.quote) (tt {0}) _ _ c.in_ok-check_closed.ensures
