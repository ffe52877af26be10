use Rattle.std.proofs.Common.{◌≡◌, drop}
use Rattle.std.specs.List.{list_any}
use Rattle.highlight_paint.specs.Paths.{is_slash}
use Rattle.highlight_paint.proofs.paths.has_slash.Given as goal

abbrev pub invariant-loop-i : goal.invariant-loop-i
invariant-loop-i l = list_any is_slash (drop l.i l.path) ≡ list_any is_slash (drop l.from l.path)
