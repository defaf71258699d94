-- Document 01: 'W1 to W14 are shown together, as a single table, from the formulas'. Every row's answer is its amount, and none is refused.
-- Assumes nothing.
use mathlib.Core.Path.{◌≡◌, refl}
use Rattle.amounts.specs.Lists.{every}
use Rattle.refusals.specs.Refusals.{first, answered, judge}
use Rattle.kinds.specs.Kinds.{unless_exempt, by_kind, rules_of}
use Rattle.bids.specs.Points.{largest_mwh, total_mwh, mwh_at, tried, exposure, wheel_exposure}
use Rattle.bids.specs.Bids.{import_bid, export_bid, hour_ahead_bid, bid_mwh, bid_requirement}
use Rattle.bids.specs.Rows.{point_rows, bid_rows}
use Rattle.bids.specs.Entries.{bid_verdict}
use Rattle.deliveries.specs.Rows.{delivery_rows, posted_rows, finished_rows}
use Rattle.formulas.specs.Stages.{import_posted, balancing, import_finished, export_posted, export_finished, hour_ahead_finished, wheel_posted, wheel_finished, posted_requirement, finished_requirement}
use Rattle.formulas.specs.Entries.{posted_verdict, finished_verdict}
use Rattle.formulas.specs.Worked.{examples, answers, given}

pub worked : answers examples ≡ given examples
unfolding every first answered judge unless_exempt by_kind rules_of largest_mwh total_mwh mwh_at tried exposure wheel_exposure import_bid export_bid hour_ahead_bid bid_mwh bid_requirement point_rows bid_rows bid_verdict delivery_rows posted_rows finished_rows import_posted balancing import_finished export_posted export_finished hour_ahead_finished wheel_posted wheel_finished posted_requirement finished_requirement posted_verdict finished_verdict
worked = refl
