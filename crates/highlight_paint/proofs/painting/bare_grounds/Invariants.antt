use Rattle.std.proofs.Common.{◌≡◌, replicate}
use Rattle.face_grounds.specs.Grounds.{everywhere}
use Rattle.highlight_paint.proofs.painting.bare_grounds.Given as goal

abbrev pub invariant-loop : goal.invariant-loop
invariant-loop l = l.grounds.items ≡ replicate l.counter (everywhere l.face)
