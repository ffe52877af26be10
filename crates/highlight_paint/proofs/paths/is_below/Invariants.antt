use Rattle.std.proofs.Common.{◌≡◌, drop}
use Rattle.highlight_paint.specs.Paths.{is_below}
use Rattle.highlight_paint.proofs.paths.is_below.Given as goal

abbrev pub invariant-loop-i : goal.invariant-loop-i
invariant-loop-i l = is_below (drop l.i l.above) (drop l.i l.path) ≡ is_below l.above l.path
