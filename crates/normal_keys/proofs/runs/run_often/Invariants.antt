use Rattle.std.proofs.Common.{◌≡◌, ◌≤◌, ◌-◌, true, false, length}
use Rattle.kak_world.specs.Flat.{acts, sels_of}
use Rattle.normal_keys.specs.Running.{runs, further_runs}
use Rattle.normal_keys.specs.Repeating.{once, repeated_grows}
use Rattle.normal_keys.specs.Wanting.{before_run}
use Rattle.normal_keys.proofs.runs.run_often.Given as goal

abbrev pub invariant-loop : goal.invariant-loop
invariant-loop g l = record {
  left : further_runs (l.prefix.count - l.counter) (once l.what l.prefix.register l.who) l.world.flat ≡ runs l.prefix.count (once l.what l.prefix.register l.who) l.fn.world.flat;
  reached : l.world.flat ≡ (once l.what l.prefix.register l.who (before_run (l.counter - 1) (once l.what l.prefix.register l.who) l.fn.world.flat)).world;
  stays : acts l.who l.world.flat ≡ true;
  few : repeated_grows l.what ≡ false → length (sels_of l.who l.fn.world.flat).list ≤ 4 → length (sels_of l.who l.world.flat).list ≤ 4;
}
