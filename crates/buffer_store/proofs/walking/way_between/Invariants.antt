use Rattle.std.proofs.Common.{◌+◌}
use Rattle.buffer_store.proofs.WayLemmas.{IsOnTheWay}
use Rattle.buffer_store.proofs.walking.way_between.Given as goal

-- the greater of the two nodes has the lower one of its parent next
abbrev pub decreases-loop-above : goal.decreases-loop-above
decreases-loop-above l = l.above + l.below

-- what was left and gone to so far, and the way between the two nodes, are the whole way
abbrev pub invariant-loop-above : goal.invariant-loop-above
invariant-loop-above l = IsOnTheWay l.branches l.from l.to l.above l.below l.left.items l.entered.items
