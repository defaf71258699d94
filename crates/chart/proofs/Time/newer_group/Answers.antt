-- `chart::Time::newer_group` meets its contract: a month has the groups of its season.
use Rattle.chart.specs.Groups.{day_number}
use Rattle.chart.proofs.ThirtyThree.{by-season}
use Rattle.chart.proofs.Time.newer_group.Goals as goal

pub returns : goal.returns
returns c =
    let t = c.args.self in
    let e = by-season t.month (day_number t.day) t.hour t.in_range in
    cc
