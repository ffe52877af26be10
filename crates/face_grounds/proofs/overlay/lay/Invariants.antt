-- The faces before are laid.
use Rattle.face_grounds.proofs.LayLemmas.{IsLaid}
use Rattle.face_grounds.proofs.overlay.lay.Given as goal

abbrev pub invariant-loop-over : goal.invariant-loop-over
invariant-loop-over l = IsLaid l.runs l.rest l.overs l.over-index l.out.items l.reach.place l.reach.run
