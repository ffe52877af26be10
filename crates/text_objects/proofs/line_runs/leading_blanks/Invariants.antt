use Rattle.std.proofs.Common.{◌≡◌}
use Rattle.compact_chars.specs.Rows.{chars_of}
use Rattle.text_objects.specs.Runs.{chars_end}
use Rattle.text_objects.specs.RunObjects.{is_blank}
use Rattle.text_objects.proofs.line_runs.leading_blanks.Given as goal

abbrev pub invariant-loop-column : goal.invariant-loop-column
invariant-loop-column l = chars_end is_blank (chars_of l.line) 0 ≡ chars_end is_blank (chars_of l.line) l.column
