-- `bids::bid_mwh`: whether points add is the kind's.
use Rattle.bids.specs.Bids.{bid_mwh}
use Rattle.bids.proofs.bids.bid_mwh.Goals as goal

pub returns-then-rules : goal.returns-then-rules
unfolding bid_mwh
returns-then-rules c = rw (← c.rules-rules.ensures, c.if-rules.true) c.total_mwh.ensures

pub returns-else-rules : goal.returns-else-rules
unfolding bid_mwh
returns-else-rules c = rw (← c.rules-rules.ensures, c.if-rules.false) c.largest_mwh.ensures
