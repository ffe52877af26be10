use Rattle.std.proofs.Common.{drop}
use Rattle.buffer_store.specs.Traces.{trace}
use Rattle.buffer_store.specs.Walks.{on_over, CanGoForth}
use Rattle.buffer_store.proofs.TraceLemmas.{IsOver}
use Rattle.buffer_store.proofs.walking.go_on.Given as goal

-- the changes so far were made, and those of the nodes that are left complete the whole
abbrev pub invariant-loop-node : goal.invariant-loop-node
invariant-loop-node l = record {
  over : IsOver (trace l.fn.lines l.fn.shifts.items l.fn.marks.items) (trace l.lines l.shifts.items l.marks.items) (on_over l.branches l.fn.lines l.nodes) (on_over l.branches l.lines (drop l.node-index l.nodes));
  can : CanGoForth l.branches l.lines (drop l.node-index l.nodes);
}
