use Rattle.std.proofs.Common.{◌≡◌, ◌<◌}
use Rattle.selection_set.specs.Sweeping.{swept_sels_place}
use Rattle.selection_set.proofs.SliceLemmas.{IsSweeping}
use Rattle.selection_set.proofs.list.sweep_slice.Given as goal

abbrev pub invariant-loop-i : goal.invariant-loop-i
invariant-loop-i l = record {
  sweeping : IsSweeping l.initial.list l.main l.list l.i l.at l.current;
  main_is : l.main < l.i → l.place ≡ swept_sels_place l.initial.list l.main;
}
