use Rattle.std.proofs.Common.{◌≡◌, ◌+◌, drop}
use Rattle.compact_chars.specs.Rows.{chars_of}
use Rattle.edit_ops.specs.Blanks.{blanks}
use Rattle.edit_ops.proofs.line_blanks.blanks.Given as goal

abbrev pub invariant-loop-i : goal.invariant-loop-i
invariant-loop-i l = blanks (chars_of l.line) ≡ l.i + blanks (drop l.i (chars_of l.line))
