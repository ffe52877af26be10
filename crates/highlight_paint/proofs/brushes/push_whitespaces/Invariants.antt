use Rattle.std.proofs.Common.{◌≡◌, ◌++◌, drop}
use Rattle.compact_chars.specs.Rows.{chars_of}
use Rattle.highlight_paint.specs.Overs.{whitespace_overs}
use Rattle.highlight_paint.proofs.brushes.push_whitespaces.Given as goal

-- what was added, with what the characters that are left have, is what is to be added
abbrev pub invariant-loop-i : goal.invariant-loop-i
invariant-loop-i l =
    l.overs.items ++ whitespace_overs l.face l.i (drop l.i (chars_of l.line)) ≡ l.fn.overs.items ++ whitespace_overs l.face 0 (chars_of l.line)
