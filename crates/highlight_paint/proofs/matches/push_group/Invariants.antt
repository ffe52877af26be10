use Rattle.std.proofs.Common.{◌≡◌, ◌++◌, drop}
use Rattle.compact_chars.specs.Rows.{chars_of}
use Rattle.highlight_paint.specs.Overs.{seen_overs}
use Rattle.highlight_paint.specs.Walks.{IsLineWalk}
use Rattle.highlight_paint.proofs.matches.push_group.Given as goal

-- what was added, with what the ranges that are left have, is what is to be added
abbrev pub invariant-loop-one : goal.invariant-loop-one
invariant-loop-one l = record {
  walk : IsLineWalk (chars_of l.line) l.walk;
  added : l.overs.items ++ seen_overs (chars_of l.line) (drop l.one-index l.found) l.group ≡ l.fn.overs.items ++ seen_overs (chars_of l.line) l.found l.group;
}
