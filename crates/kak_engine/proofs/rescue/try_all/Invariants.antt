use Rattle.std.proofs.Common.{◌≤◌}
use Rattle.kak_world.specs.declared.slots.TheConstants.{MAX_BUFFERS}
use Rattle.kak_engine.specs.Rescue.{due_below, AreTried}
use Rattle.kak_engine.proofs.rescue.try_all.Given as goal

abbrev pub invariant-loop-n : goal.invariant-loop-n
invariant-loop-n g l = record {
  tried : AreTried (due_below l.n l.world.flat) l.tally.done l.tally.wanting (g.O.Outside.seen l.fn.outside) (g.O.Outside.seen l.outside);
  few : l.tally.done ≤ l.n;
  within : l.n ≤ MAX_BUFFERS;
}
