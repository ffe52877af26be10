use Rattle.std.proofs.Common.{arith}
use Rattle.face_grounds.proofs.LayLemmas.{ascent-none, ascent-more}
use Rattle.face_grounds.proofs.ground.ascending_to.Goals as goal

pub loop-k-init : goal.loop-k-init
loop-k-init c = ascent-none c.args.overs.now c.args.at c.requires

pub loop-k-preserved : goal.loop-k-preserved
loop-k-preserved c =
    let y = c.follows.ensures.yes c.if-not-follows.false in
    ascent-more c.args.overs.now c.args.at c.loop-k.k c.loop-k.place _ c.loop-k.invariant (omega (arith, c.loop-k-test.true)) y.0 y.1
