-- `entry::interval_mwh`: the iterator's sum is the interval's, and it is small.
use mathlib.Core.Path.{◌∙◌}
use native.Mathlib.Omega.{arith}
use lib.ListN.{take, drop}
use Rattle.std.proofs.Common.{rules}
use Rattle.std.proofs.lemmas.Iterator.{YieldsList-from_slice}
use Rattle.std.proofs.lemmas.Iterator.Consumers.{sum_from_yields_List, fits_from_yields_list}
use Rattle.intervals.proofs.Sums.{sum-interval, interval-small}
use Rattle.intervals.proofs.entry.interval_mwh.Goals as goal

pub sum-requires-clause-fits : goal.sum-requires-clause-fits
sum-requires-clause-fits c =
    let s = c.args in
    let r = c.requires in
    fits_from_yields_list c.iter.result _ (YieldsList-from_slice (take s.count (drop s.from s.mwh.now)) (search rules))
    (omega (arith, sum-interval s.from s.count s.mwh.now, interval-small s.from s.count s.mwh.now r.mwh_value r.count_bound))

pub returns : goal.returns
returns c =
    let s = c.args in
    sum_from_yields_List c.iter.result c.sum.result c.sum.ensures.ran (YieldsList-from_slice (take s.count (drop s.from s.mwh.now)) (search rules))
    ∙ sum-interval s.from s.count s.mwh.now
