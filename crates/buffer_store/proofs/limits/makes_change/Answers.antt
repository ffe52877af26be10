use Rattle.std.proofs.Common.{sym, ◌∙◌}
use Rattle.buffer_store.proofs.LimitLemmas.{unchanged-next, changed-next, unchanged-more}
use Rattle.buffer_store.proofs.limits.makes_change.Goals as goal

pub replaces-requires-clause-ends : goal.replaces-requires-clause-ends
replaces-requires-clause-ends c = (unchanged-next c.args.lines.now c.args.splices.now c.loop-splice.splice-index c.splice-item.result c.requires c.loop-splice-test.true c.splice-item.is c.loop-splice.invariant).ends

pub replaces-requires-clause-ordered : goal.replaces-requires-clause-ordered
replaces-requires-clause-ordered c = (unchanged-next c.args.lines.now c.args.splices.now c.loop-splice.splice-index c.splice-item.result c.requires c.loop-splice-test.true c.splice-item.is c.loop-splice.invariant).ordered

pub returns-then-replaces : goal.returns-then-replaces
returns-then-replaces c = sym (changed-next c.args.lines.now c.args.splices.now c.loop-splice.splice-index c.splice-item.result (unchanged-next c.args.lines.now c.args.splices.now c.loop-splice.splice-index c.splice-item.result c.requires c.loop-splice-test.true c.splice-item.is c.loop-splice.invariant) (sym c.replaces.ensures ∙ c.if-replaces.true))

pub loop-splice-preserved : goal.loop-splice-preserved
loop-splice-preserved c = unchanged-more c.args.lines.now c.args.splices.now c.loop-splice.splice-index c.splice-item.result (unchanged-next c.args.lines.now c.args.splices.now c.loop-splice.splice-index c.splice-item.result c.requires c.loop-splice-test.true c.splice-item.is c.loop-splice.invariant) (sym c.replaces.ensures ∙ c.if-replaces.false)
