use Rattle.std.proofs.Common.{◌+◌, ◌-◌, ◌≤◌, length}
use Rattle.move_marks.proofs.MergeLemmas.{IsJoining}
use Rattle.move_marks.proofs.joining.in_one.Given as goal

abbrev pub invariant-loop-i : goal.invariant-loop-i
invariant-loop-i l = record {
  joining : IsJoining l.first l.second l.list.items l.i l.j;
  room : length l.first + length l.second ≤ l.list.capacity;
}

abbrev pub decreases-loop-i : goal.decreases-loop-i
decreases-loop-i l = (length l.first - l.i) + (length l.second - l.j)
