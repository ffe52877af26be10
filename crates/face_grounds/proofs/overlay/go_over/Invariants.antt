-- The runs gone over are done, and those ahead are those of the places ahead.
use Rattle.std.proofs.Common.{◌≡◌, ℕ, ◌≤◌, ◌<◌, ◌-◌, length}
use Rattle.kak_faces.specs.declared.face.Face.{Face}
use Rattle.face_grounds.specs.Grounds.{face_in}
use Rattle.face_grounds.specs.Laying.{seen_over, IsDrawn, IsAhead}
use Rattle.face_grounds.proofs.overlay.go_over.Given as goal

abbrev pub invariant-loop-out : goal.invariant-loop-out
invariant-loop-out l = record {
  from : l.fn.reach.place ≤ l.now.place;
  within : l.now.place ≤ l.to;
  ahead : IsAhead l.runs l.rest l.fn.reach.run l.fn.reach.place → IsAhead l.runs l.rest l.now.run l.now.place;
  drawn : (seen : ℕ → Face) → IsDrawn seen l.fn.reach.place l.fn.out.items → IsAhead l.runs l.rest l.fn.reach.run l.fn.reach.place
      → ((n : ℕ) → l.fn.reach.place ≤ n → n < l.to → seen_over l.over (face_in l.runs l.rest n) ≡ seen n) → IsDrawn seen l.now.place l.out.items;
}

abbrev pub decreases-loop-out : goal.decreases-loop-out
decreases-loop-out l = length l.runs - l.now.run
