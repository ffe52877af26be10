use Rattle.std.proofs.Common.{sym}
use Rattle.buffer_store.proofs.PassLemmas.{IsPassingNext, passing-first, passing-next, passing-can, passing-full, passing-more, passing-all}
use Rattle.buffer_store.proofs.limits.is_too_long.Goals as goal

pub loop-splice-init : goal.loop-splice-init
loop-splice-init c = passing-first c.args.lines.now c.args.splices.now c.len.result c.len.ensures.valid c.requires c.len.ensures.value

pub pass-requires : goal.pass-requires
pass-requires c = passing-can c.args.lines.now c.args.splices.now c.loop-splice.splice-index c.splice-item.result c.loop-splice.at c.len.ensures.valid (passing-next c.args.lines.now c.args.splices.now c.loop-splice.splice-index c.splice-item.result c.loop-splice.at c.requires c.loop-splice-test.true c.splice-item.is c.loop-splice.invariant)

pub loop-splice-preserved : goal.loop-splice-preserved
loop-splice-preserved c =
    let k : IsPassingNext c.args.lines.now c.args.splices.now c.loop-splice.splice-index c.splice-item.result c.loop-splice.at = passing-next c.args.lines.now c.args.splices.now c.loop-splice.splice-index c.splice-item.result c.loop-splice.at c.requires c.loop-splice-test.true c.splice-item.is c.loop-splice.invariant in
    let on = c.in-Some.ensures k.passing.now k.passing.f k.passing.passed k.behind in
    passing-more c.args.lines.now c.args.splices.now c.loop-splice.splice-index c.splice-item.result c.loop-splice.at c.in-Some.next k on.0 on.1

pub returns-in-None : goal.returns-in-None
returns-in-None c =
    let k : IsPassingNext c.args.lines.now c.args.splices.now c.loop-splice.splice-index c.splice-item.result c.loop-splice.at = passing-next c.args.lines.now c.args.splices.now c.loop-splice.splice-index c.splice-item.result c.loop-splice.at c.requires c.loop-splice-test.true c.splice-item.is c.loop-splice.invariant in
    sym (passing-full c.args.lines.now c.args.splices.now c.loop-splice.splice-index c.splice-item.result c.loop-splice.at k (c.in-None.ensures k.passing.now k.passing.f k.passing.passed k.behind))

pub returns : goal.returns
returns c = sym (passing-all c.args.lines.now c.args.splices.now c.loop-splice.splice-index c.loop-splice.at c.loop-splice-test.false c.loop-splice.invariant)
