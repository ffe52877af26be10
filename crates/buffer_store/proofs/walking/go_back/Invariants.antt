use Rattle.std.proofs.Common.{drop}
use Rattle.buffer_store.specs.Traces.{trace}
use Rattle.buffer_store.specs.Walks.{back_over, CanGoBack}
use Rattle.buffer_store.proofs.TraceLemmas.{IsOver}
use Rattle.buffer_store.proofs.walking.go_back.Given as goal

-- the changes so far were taken back, and those of the nodes that are left complete the whole
abbrev pub invariant-loop-node : goal.invariant-loop-node
invariant-loop-node l = record {
  over : IsOver (trace l.fn.lines l.fn.shifts.items l.fn.marks.items) (trace l.lines l.shifts.items l.marks.items) (back_over l.branches l.fn.lines l.nodes) (back_over l.branches l.lines (drop l.node-index l.nodes));
  can : CanGoBack l.branches l.lines (drop l.node-index l.nodes);
}
