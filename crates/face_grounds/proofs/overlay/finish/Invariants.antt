-- The runs gone over are done, and those ahead are those of the places ahead.
use Rattle.std.proofs.Common.{◌≡◌, ℕ, ◌≤◌, ◌-◌, length}
use Rattle.kak_faces.specs.declared.face.Face.{Face}
use Rattle.face_grounds.specs.Grounds.{face_in}
use Rattle.face_grounds.specs.Laying.{IsDrawn, IsAhead}
use Rattle.face_grounds.proofs.overlay.finish.Given as goal

abbrev pub invariant-loop-now : goal.invariant-loop-now
invariant-loop-now l = record {
  from : l.fn.reach.place ≤ l.now.place;
  ahead : IsAhead l.runs l.rest l.fn.reach.run l.fn.reach.place → IsAhead l.runs l.rest l.now.run l.now.place;
  drawn : (seen : ℕ → Face) → IsDrawn seen l.fn.reach.place l.fn.out.items → IsAhead l.runs l.rest l.fn.reach.run l.fn.reach.place
      → ((n : ℕ) → l.fn.reach.place ≤ n → face_in l.runs l.rest n ≡ seen n) → IsDrawn seen l.now.place l.out.items;
}

abbrev pub decreases-loop-now : goal.decreases-loop-now
decreases-loop-now l = length l.runs - l.now.run
