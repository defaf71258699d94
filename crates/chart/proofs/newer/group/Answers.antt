-- `chart::newer::group` meets its contract: the constant is, place by place, the chart of 33 groups.
use mathlib.Core.Path.{refl}
use native.Mathlib.Omega.{arith}
use Rattle.chart.specs.Groups.{has, thirty_three, groups_at, group_in, day_number, place_of}
use Rattle.chart.proofs.Seasons.{place-last}
use Rattle.chart.proofs.Parted.{day-last}
use Rattle.chart.proofs.ThirtyThree.{by-hour, listed}
use Rattle.chart.proofs.newer.group.Goals as goal

pub returns : goal.returns
unfolding has thirty_three groups_at group_in
returns c =
    rw (c.place.ensures, c.number.ensures) (listed by-hour refl (place_of c.args.season) (day_number c.args.day) c.args.hour (place-last c.args.season) (day-last c.args.day) (omega arith))
