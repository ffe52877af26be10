use Rattle.std.proofs.Common.{◌≡◌, ◌+◌, ◌≤◌, drop}
use Rattle.compact_chars.specs.Rows.{chars_of}
use Rattle.edit_ops.specs.Blanks.{blanks_within}
use Rattle.edit_ops.proofs.line_blanks.blanks_within.Given as goal

abbrev pub invariant-loop-i : goal.invariant-loop-i
invariant-loop-i l = record {
  so_far : blanks_within l.tabstop.columns l.most 0 (chars_of l.line) ≡ l.i + blanks_within l.tabstop.columns l.most l.column (drop l.i (chars_of l.line));
  within : l.column ≤ l.most;
}
