use Rattle.std.proofs.Common.{◌≡◌, ◌+◌, ◌≤◌, ◌++◌, length, take, vec_len, vec_capacity}
use Rattle.compact_chars.proofs.lent.push_bytes.Given as goal

abbrev pub invariant-loop-b : goal.invariant-loop-b
invariant-loop-b l = record {
  so_far : l.others.items ≡ l.fn.others.items ++ take l.b-index l.bytes;
  room : vec_len l.fn.others + length l.bytes ≤ vec_capacity l.others;
}
