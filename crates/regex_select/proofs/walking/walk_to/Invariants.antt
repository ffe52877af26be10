use Rattle.std.proofs.Common.{◌≡◌, ◌+◌, ◌-◌, length, drop}
use Rattle.regex_ports.specs.Matching.{chars_before}
use Rattle.regex_select.specs.Walks.{own_chars, IsWalk}
use Rattle.regex_select.proofs.walking.walk_to.Given as goal

abbrev pub invariant-loop-sel : goal.invariant-loop-sel
invariant-loop-sel l = record {
  walk : IsWalk l.lines l.sel l.walk;
  rest : chars_before (own_chars l.lines l.sel) l.byte ≡ l.walk.passed + chars_before (drop l.walk.passed (own_chars l.lines l.sel)) (l.byte - l.walk.bytes);
}

abbrev pub decreases-loop-sel : goal.decreases-loop-sel
decreases-loop-sel l = length (own_chars l.lines l.sel) - l.walk.passed
