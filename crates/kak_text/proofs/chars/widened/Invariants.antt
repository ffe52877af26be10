use Rattle.std.proofs.Common.{◌≡◌, ◌≤◌, length, take}
use Rattle.std.specs.Vec.{vec_capacity}
use Rattle.kak_text.proofs.chars.widened.Given as goal

abbrev pub invariant-loop-b : goal.invariant-loop-b
invariant-loop-b l = record {
  so_far : l.wide.items ≡ take l.b-index l.bytes;
  reserved : length l.bytes ≤ vec_capacity l.wide;
}
