-- The bytes so far are those of the characters so far, at most four each.
use Rattle.std.proofs.Common.{◌≡◌, ◌*◌, ◌≤◌, take}
use Rattle.std.specs.Prelude.{sum_by}
use Rattle.std.specs.Char.{len_utf8}
use Rattle.compact_chars.specs.Rows.{chars_of}
use Rattle.selection_texts.proofs.bytes.byte_column.Given as goal

abbrev pub invariant-loop-i : goal.invariant-loop-i
invariant-loop-i l = record { sum_is : l.bytes ≡ sum_by len_utf8 (take l.i (chars_of l.line)); few : l.bytes ≤ 4 * l.i }
