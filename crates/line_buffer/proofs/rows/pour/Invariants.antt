-- The two rows are the same list, so many lines were moved, and there is room for the rest.
use Rattle.std.proofs.Common.{◌≡◌, ◌+◌, ◌-◌, ◌≤◌, ◌++◌, reverse, length, vec_len, vec_capacity}
use Rattle.line_buffer.proofs.rows.pour.Given as goal

abbrev pub invariant-loop : goal.invariant-loop
invariant-loop l = record {
  same : l.from.items ++ reverse l.onto.items ≡ l.fn.from.items ++ reverse l.fn.onto.items;
  moved : length l.from.items + l.counter ≡ length l.fn.from.items;
  room : vec_len l.onto + (l.more - l.counter) ≤ vec_capacity l.onto;
}
