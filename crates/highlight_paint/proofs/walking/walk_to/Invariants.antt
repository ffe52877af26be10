use Rattle.std.proofs.Common.{◌≡◌, ◌+◌, ◌-◌, length, drop}
use Rattle.compact_chars.specs.Rows.{chars_of}
use Rattle.regex_ports.specs.Matching.{chars_before}
use Rattle.highlight_paint.specs.Walks.{IsLineWalk}
use Rattle.highlight_paint.proofs.walking.walk_to.Given as goal

abbrev pub invariant-loop-walk : goal.invariant-loop-walk
invariant-loop-walk l = record {
  walk : IsLineWalk (chars_of l.line) l.walk;
  rest : chars_before (chars_of l.line) l.byte ≡ l.walk.passed + chars_before (drop l.walk.passed (chars_of l.line)) (l.byte - l.walk.bytes);
}

abbrev pub decreases-loop-walk : goal.decreases-loop-walk
decreases-loop-walk l = length (chars_of l.line) - l.walk.passed
