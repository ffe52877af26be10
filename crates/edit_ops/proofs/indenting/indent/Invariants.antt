use Rattle.std.proofs.Common.{◌≡◌, ◌≤◌, length, map, take}
use Rattle.std.specs.Vec.{vec_capacity}
use Rattle.std.specs.List.{AllByRecursion, filter}
use Rattle.buffer_store.specs.Buffers.{flat_splices, IsSpliceOf}
use Rattle.edit_ops.specs.Indenting.{indent_at, has_more}
use Rattle.edit_ops.proofs.indenting.indent.Given as goal

abbrev pub invariant-loop-n : goal.invariant-loop-n
invariant-loop-n l = record {
  so_far : flat_splices l.lines l.splices.items ≡ map (indent_at l.lines l.how l.width l.tabstop.columns) (filter (has_more l.lines) (take l.n-index l.n-items));
  ends : AllByRecursion (IsSpliceOf l.lines) l.splices.items;
  count : length l.splices.items ≤ l.n-index;
  reserved : length l.n-items ≤ vec_capacity l.splices;
}
