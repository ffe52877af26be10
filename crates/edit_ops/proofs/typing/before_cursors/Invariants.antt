use Rattle.std.proofs.Common.{◌≡◌, ◌≤◌, length, map, take}
use Rattle.std.specs.Vec.{vec_capacity}
use Rattle.edit_ops.specs.Typing.{splice_before}
use Rattle.edit_ops.proofs.typing.before_cursors.Given as goal

abbrev pub invariant-loop-sel : goal.invariant-loop-sel
invariant-loop-sel l = record {
  so_far : l.splices.items ≡ map (splice_before l.chars) (take l.sel-index l.sels);
  reserved : length l.sels ≤ vec_capacity l.splices;
}
