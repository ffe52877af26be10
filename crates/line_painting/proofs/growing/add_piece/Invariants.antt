use Rattle.std.proofs.Common.{◌≡◌, length, take}
use Rattle.line_painting.proofs.growing.add_piece.Given as goal

abbrev pub invariant-loop-i : goal.invariant-loop-i
invariant-loop-i l = record {
  so_far : take l.i l.wide ≡ take l.i l.bytes;
  room : length l.wide ≡ 64;
}
