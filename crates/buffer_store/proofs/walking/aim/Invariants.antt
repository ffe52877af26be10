use Rattle.std.proofs.Common.{◌≡◌, drop}
use Rattle.buffer_store.specs.Walks.{aimed_over, AreThere}
use Rattle.buffer_store.proofs.walking.aim.Given as goal

-- the nodes that are left complete the whole
abbrev pub invariant-loop-node : goal.invariant-loop-node
invariant-loop-node l = record {
  whole : aimed_over l.branches (drop l.node-index l.nodes) ≡ aimed_over l.fn.branches l.nodes;
  there : AreThere l.branches (drop l.node-index l.nodes);
}
