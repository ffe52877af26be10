-- The list can catch up with the shifts that are left.
use Rattle.std.proofs.Common.{drop}
use Rattle.selection_map.specs.Catching.{IsCatchable}
use Rattle.text_trials.proofs.selection_map_tests.one_by_one.Given as goal

abbrev pub invariant-loop-shift : goal.invariant-loop-shift
invariant-loop-shift l = IsCatchable (drop l.shift-index l.shifts) l.sels
