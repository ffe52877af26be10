use Rattle.std.proofs.Common.{◌≡◌, length, take}
use Rattle.json_writing.proofs.text_bytes.push_plain.Given as goal

abbrev pub invariant-loop-i : goal.invariant-loop-i
invariant-loop-i l = record {
  so_far : take l.i l.bytes ≡ take l.i l.text;
  room : length l.bytes ≡ 64;
}
