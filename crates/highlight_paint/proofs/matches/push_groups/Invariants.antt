use Rattle.std.proofs.Common.{◌≡◌, ◌++◌, take}
use Rattle.std.specs.Prelude.{flat_map}
use Rattle.compact_chars.specs.Rows.{chars_of}
use Rattle.highlight_paint.specs.Overs.{seen_overs}
use Rattle.highlight_paint.proofs.matches.push_groups.Given as goal

abbrev pub invariant-loop-group : goal.invariant-loop-group
invariant-loop-group l = l.overs.items ≡ l.fn.overs.items ++ flat_map (seen_overs (chars_of l.line) l.found) (take l.group-index l.groups)
