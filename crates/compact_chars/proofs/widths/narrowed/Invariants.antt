use Rattle.std.proofs.Common.{◌≡◌, ◌≤◌, length, take}
use Rattle.compact_chars.proofs.widths.narrowed.Given as goal

abbrev pub invariant-loop-c : goal.invariant-loop-c
invariant-loop-c l = record {
  so_far : l.bytes.items ≡ take l.c-index l.chars;
  room : length l.chars ≤ l.bytes.capacity;
}
