-- The runs that were gone over don't have the place.
use Rattle.std.proofs.Common.{◌≡◌, drop}
use Rattle.face_grounds.specs.Grounds.{face_in, ground_at}
use Rattle.face_grounds.proofs.ground.Ground.face_at.Given as goal

abbrev pub invariant-loop-run : goal.invariant-loop-run
invariant-loop-run l = face_in (drop l.run-index l.run-items) l.self.rest l.place ≡ ground_at l.self l.place
