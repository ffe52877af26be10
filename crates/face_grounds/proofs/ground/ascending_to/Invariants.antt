-- The faces gone over ascend.
use Rattle.face_grounds.proofs.LayLemmas.{IsAscent}
use Rattle.face_grounds.proofs.ground.ascending_to.Given as goal

abbrev pub invariant-loop-k : goal.invariant-loop-k
invariant-loop-k l = IsAscent l.overs l.at l.k l.place
