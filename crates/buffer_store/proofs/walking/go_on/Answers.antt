use Rattle.std.proofs.Common.{ap, ◌∙◌}
use Rattle.buffer_store.specs.Seen.{Branch}
use Rattle.buffer_store.specs.Traces.{trace}
use Rattle.buffer_store.proofs.MakingLemmas.{on_any}
use Rattle.buffer_store.proofs.WalkLemmas.{on-more, on-some}
use Rattle.buffer_store.proofs.walking.go_on.Goals as goal

pub returns-in_err-make_all-clause-err : goal.returns-in_err-make_all-clause-err
returns-in_err-make_all-clause-err c =
    on_any c.from_residual.result _ (on-some c.args.branches.now _ (trace c.loop-node.lines c.loop-node.shifts.items c.loop-node.marks.items) _ _ c.args.nodes.now c.loop-node.node-index c.index-branches-node.result c.as_slice.result.now c.loop-node-test.true c.loop-node.invariant.can c.loop-node.invariant.over c.index-branches-node.is (c.as_slice.ensures.value ∙ ap (λ (b : Branch). b.changes) c.branch.view_is) c.in_err-make_all.ensures.err)

pub loop-node-preserved : goal.loop-node-preserved
loop-node-preserved c =
    let more = on-more c.args.branches.now _ (trace c.loop-node.lines c.loop-node.shifts.items c.loop-node.marks.items) _ _ c.args.nodes.now c.loop-node.node-index c.index-branches-node.result c.as_slice.result.now c.loop-node-test.true c.loop-node.invariant.can c.loop-node.invariant.over c.index-branches-node.is (c.as_slice.ensures.value ∙ ap (λ (b : Branch). b.changes) c.branch.view_is) c.in_ok-make_all.ensures.ok in
    record { over = more.over; can = more.can }
