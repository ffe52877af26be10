-- The characters so far end where their bytes do, at most four each, and the byte isn't before that.
use Rattle.std.proofs.Common.{◌≡◌, ◌*◌, ◌≤◌}
use Rattle.kak_text.specs.Bytes.{bytes_before}
use Rattle.compact_chars.specs.Rows.{chars_of}
use Rattle.selection_texts.proofs.bytes.char_column.Given as goal

abbrev pub invariant-loop-i : goal.invariant-loop-i
invariant-loop-i l = record { sum_is : l.end ≡ bytes_before (chars_of l.line) l.i; few : l.end ≤ 4 * l.i; behind : l.end ≤ l.byte }
