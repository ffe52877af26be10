use Rattle.std.proofs.Common.{ap, get_or, set, drop, sym, ◌+◌, ◌∙◌, subst}
use Rattle.buffer_store.specs.Seen.{Branch}
use Rattle.buffer_store.specs.Laws.{aimed_branch}
use Rattle.buffer_store.proofs.WalkLemmas.{aimed-more, IsAimedOver}
use Rattle.buffer_store.proofs.walking.aim.Goals as goal

pub loop-node-preserved : goal.loop-node-preserved
loop-node-preserved c =
    let more = aimed-more c.args.branches.now c.loop-node.branches c.args.nodes.now c.loop-node.node-index c.branch.inside.parent c.index-branches-node.result c.index-branches-parent.result c.loop-node-test.true c.loop-node.invariant.there c.loop-node.invariant.whole c.index-branches-node.is (ap (λ (b : Branch). b.parent) (c.branch.view_is ∙ sym c.index-branches-node.is)) c.index-branches-parent.is in
    let P : Branch → Type 0 = λ b. IsAimedOver c.args.branches.now (set c.loop-node.branches c.branch.inside.parent (aimed_branch b (get_or c.args.nodes.now c.loop-node.node-index 0))) c.args.nodes.now (drop (c.loop-node.node-index + 1) c.args.nodes.now) in
    let now = subst P (sym (c.branch-in-loop-node.view_is ∙ sym c.index-branches-parent.is)) more in
    record { whole = now.whole; there = now.there }
