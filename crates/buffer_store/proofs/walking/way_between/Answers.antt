use Rattle.std.proofs.Common.{◌<◌, ap, ◌∙◌, arith}
use Rattle.buffer_store.specs.Seen.{Branch}
use Rattle.buffer_store.proofs.WayLemmas.{way-up, way-down, way-left, way-entered}
use Rattle.buffer_store.proofs.WalkLemmas.{branch-read}
use Rattle.buffer_store.proofs.walking.way_between.Goals as goal

pub loop-above-preserved-then-below-above : goal.loop-above-preserved-then-below-above
loop-above-preserved-then-below-above c =
    way-up c.args.branches.now c.args.from c.args.to c.loop-above.above c.loop-above.below c.branch.inside.parent c.loop-above.left.items c.loop-above.entered.items c.push.new.self.items c.requires.parents c.loop-above.invariant c.if-below-above.true (ap (λ (b : Branch). b.parent) (c.branch.view_is ∙ branch-read c.args.branches.now c.loop-above.above c.index-branches-above.result c.loop-above.invariant.a_in c.index-branches-above.is)) c.in_ok-push.ensures.items

pub loop-above-preserved : goal.loop-above-preserved
loop-above-preserved c =
    let lt : c.loop-above.above < c.loop-above.below = omega (arith, c.if-below-above.false, c.loop-above-test.true) in
    way-down c.args.branches.now c.args.from c.args.to c.loop-above.above c.loop-above.below c.branch-in-loop-above.inside.parent c.loop-above.left.items c.loop-above.entered.items c.push-in-loop-above.new.self.items c.requires.parents c.loop-above.invariant lt (ap (λ (b : Branch). b.parent) (c.branch-in-loop-above.view_is ∙ branch-read c.args.branches.now c.loop-above.below c.index-branches-below.result c.loop-above.invariant.b_in c.index-branches-below.is)) c.in_ok-push-2.ensures.items

pub returns-clause-left : goal.returns-clause-left
returns-clause-left c = λ o. way-left c.args.branches.now c.args.from c.args.to c.loop-above.above c.loop-above.below c.loop-above.left.items c.loop-above.entered.items c.loop-above.invariant c.loop-above-test.false o

pub returns-clause-entered : goal.returns-clause-entered
returns-clause-entered c = λ o. way-entered c.args.branches.now c.args.from c.args.to c.loop-above.above c.loop-above.below c.loop-above.left.items c.loop-above.entered.items c.reverse.new.self.items c.loop-above.invariant c.loop-above-test.false c.reverse.ensures.items o
