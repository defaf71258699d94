-- `chart::Table::differential` meets its contract: a table's buses stand one after the other, 18 groups each.
use mathlib.Core.Path.{ap, ◌∙◌}
use Prim.Native.Nat.{ℕ, ◌+◌, ◌-◌, ◌*◌}
use native.Mathlib.Omega.{arith}
use lib.ListN.{get_or}
use Rattle.chart.specs.Published.{published}
use Rattle.chart.proofs.Places.{on-chart, placed}
use Rattle.chart.proofs.Table.differential.Goals as goal

pub returns : goal.returns
returns c =
    let s = c.args in
    let b = on-chart s.bus.number s.bus.in_range in
    c.entry.ensures ∙ ap (λ (n : ℕ). get_or published (n + (s.bus.number - 1) * 18 + (s.group - 1)) 0) c.start.ensures
    ∙ placed s.self s.bus.number s.group (record { bus-first = b.0; bus-last = b.1; group-first = omega arith; group-last = omega arith })
