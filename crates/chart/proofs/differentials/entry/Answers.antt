-- `chart::differentials::entry` meets its contract: the constant is, number by number, the published list.
use mathlib.Core.Path.{refl}
use Rattle.chart.specs.Published.{import_table, export_table, published}
use Rattle.chart.proofs.differentials.entry.Goals as goal

pub returns : goal.returns
unfolding published import_table export_table
returns c = refl
