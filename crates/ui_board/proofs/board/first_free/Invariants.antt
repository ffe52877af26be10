use Rattle.std.proofs.Common.{◌≡◌, ◌+◌, drop}
use Rattle.ui_board.specs.Boards.{free_seat}
use Rattle.ui_board.proofs.board.first_free.Given as goal

abbrev pub invariant-loop-i : goal.invariant-loop-i
invariant-loop-i g l = l.i + free_seat (drop l.i l.seats) ≡ free_seat l.seats
