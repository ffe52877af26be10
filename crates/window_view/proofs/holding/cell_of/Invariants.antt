-- The column so far is that of the place behind the characters so far.
use Rattle.std.proofs.Common.{◌≡◌, ◌*◌, ◌≤◌}
use Rattle.kak_text.specs.Cells.{display_column}
use Rattle.compact_chars.specs.Rows.{chars_of}
use Rattle.window_view.proofs.holding.cell_of.Given as goal

abbrev pub invariant-loop-i : goal.invariant-loop-i
invariant-loop-i l = record { column_is : l.at ≡ display_column (chars_of l.line) l.i l.tabstop.columns; small : l.at ≤ 64 * l.i }
