use Rattle.std.proofs.Common.{◌≡◌, ◌≤◌, length, take}
use Rattle.compact_chars.proofs.widths.widened.Given as goal

abbrev pub invariant-loop-b : goal.invariant-loop-b
invariant-loop-b l = record {
  so_far : l.chars.items ≡ take l.b-index l.bytes;
  room : length l.bytes ≤ l.chars.capacity;
}
