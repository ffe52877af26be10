use Rattle.std.proofs.Common.{◌≡◌, ◌-◌, ◌++◌, length, drop}
use Rattle.smallvec.specs.SmallVec.{HasRoomFor}
use Rattle.edit_ops.specs.Passing.{passed_marks, none_passed}
use Rattle.edit_ops.proofs.LeftLemmas.{GoesOn}
use Rattle.edit_ops.proofs.leaving.marks_of.Given as goal

abbrev pub invariant-loop-splice : goal.invariant-loop-splice
invariant-loop-splice l = record {
  so_far : l.list.items ++ passed_marks l.last l.shifts l.walk (drop l.splice-index l.splices) ≡ passed_marks l.last l.shifts (none_passed l.last) l.splices;
  goes_on : GoesOn l.last l.shifts l.walk (drop l.splice-index l.splices);
  room : HasRoomFor l.list (length l.splices - l.splice-index);
}
