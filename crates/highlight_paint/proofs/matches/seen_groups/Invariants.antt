use Rattle.std.proofs.Common.{◌≡◌, map, take}
use Rattle.highlight_paint.specs.Overs.{seen_group}
use Rattle.highlight_paint.proofs.matches.seen_groups.Given as goal

abbrev pub invariant-loop-group : goal.invariant-loop-group
invariant-loop-group l = l.seen.items ≡ map (seen_group l.faces) (take l.group-index l.groups)
