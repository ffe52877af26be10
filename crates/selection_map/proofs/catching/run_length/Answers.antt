use Rattle.std.proofs.Common.{sym, ◌∙◌, arith}
use Rattle.selection_map.proofs.RunLemmas.{run-one, run-more}
use Rattle.selection_map.proofs.catching.run_length.Goals as goal

pub loop-n-init : goal.loop-n-init
loop-n-init c = record { some = omega arith; few = omega (arith, c.requires); run = run-one c.args.way c.args.shifts.now }

pub loop-n-preserved : goal.loop-n-preserved
loop-n-preserved c = record {
  some = omega arith;
  few = omega (arith, c.loop-n-test.true);
  run = run-more c.args.way c.loop-n.n c.args.shifts.now _ c.loop-n.invariant.some c.loop-n-test.true c.loop-n.invariant.run (sym c.follows.ensures ∙ c.if-not-follows.false);
}
