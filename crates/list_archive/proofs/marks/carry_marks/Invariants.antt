-- Those before the next one are done.
use Rattle.std.proofs.Common.{◌≡◌}
use Rattle.selection_map.proofs.FrontLemmas.{mapped_front}
use Rattle.list_archive.specs.Trails.{mark_with}
use Rattle.list_archive.specs.Archives.{carried}
use Rattle.list_archive.proofs.marks.carry_marks.Given as goal

abbrev pub invariant-loop-n : goal.invariant-loop-n
invariant-loop-n l = l.marks.items ≡ mapped_front l.n (mark_with (carried l.log l.shifts)) l.initial.marks.items
