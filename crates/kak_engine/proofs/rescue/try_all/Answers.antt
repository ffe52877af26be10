use Rattle.std.proofs.Common.{◌≡◌, refl, arith}
use Rattle.kak_engine.proofs.RescueLemmas.{tried-none, tried-both, tried-all}
use Rattle.kak_engine.proofs.rescue.try_all.Goals as goal

pub loop-n-init : goal.loop-n-init
loop-n-init g c = record { tried = tried-none _ _ refl; few = omega arith; within = omega arith }

pub both-tally-requires : goal.both-tally-requires
both-tally-requires g c = omega (arith, c.loop-n.invariant.few, c.try_rescue-one.ensures.one, c.loop-n-test.true)

pub loop-n-preserved : goal.loop-n-preserved
loop-n-preserved g c = record {
  tried = tried-both c.loop-n.n _ _ _ _ _ _ _ _ _ _ c.both-tally.ensures.done c.both-tally.ensures.wanting c.loop-n.invariant.tried c.try_rescue-one.ensures.tried;
  few = omega (arith, c.both-tally.ensures.done, c.loop-n.invariant.few, c.try_rescue-one.ensures.one);
  within = omega (arith, c.loop-n-test.true);
}

pub returns : goal.returns
returns g c = tried-all c.loop-n.n _ _ _ _ _ (omega (arith, c.loop-n.invariant.within, c.loop-n-test.false)) c.loop-n.invariant.tried
