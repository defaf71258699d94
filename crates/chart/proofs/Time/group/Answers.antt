-- `chart::Time::group` meets its contract: six groups a season, in the order of the periods, are the groups of the chart.
use mathlib.Core.Path.{◌≡◌}
use Prim.Native.Nat.{ℕ, ◌+◌, ◌*◌, ◌≤◌}
use native.Mathlib.Omega.{arith}
use Rattle.chart.specs.declared.Time.{Time}
use Rattle.chart.specs.Groups.{eighteen, group_in, day_number}
use Rattle.chart.proofs.Eighteen.{eighteen-parted, agree}
use Rattle.chart.proofs.Time.group.Goals as goal

abbrev chosen : Time → ℕ
chosen t = group_in eighteen t.month (day_number t.day) t.hour

sum : (c : goal.After-period) → c.place.result * 6 + c.period.result + 1 ≡ chosen c.args.self
sum c =
    let t = c.args.self in
    let e = agree t.month (day_number t.day) t.hour t.in_range in
    cc

numbered : (c : goal.After-period) → (1 ≤ chosen c.args.self) × (chosen c.args.self ≤ 18)
numbered c = let t = c.args.self in eighteen-parted.numbered t.month (day_number t.day) t.hour t.in_range

pub overflow_add-result : goal.overflow_add-result
overflow_add-result c = omega (arith, sum c, (numbered c).1)

pub overflow_add-result-2 : goal.overflow_add-result-2
overflow_add-result-2 c = omega (arith, sum c, (numbered c).1)

pub returns : goal.returns
returns c = record { value = sum c; in_chart = rw (sum c) (numbered c) }
