-- How far runs have been gone over, and faces that ascend.
use Rattle.std.specs.Prelude.{◌≡◌, ℕ, ◌<◌, ◌≤◌, List, [], ◌∷◌, length, drop, slice_index_or, Some, None}
use Rattle.std.specs.List.{AllByRecursion}
use Rattle.std.specs.declared.option.Option.{Option}
use Rattle.kak_faces.specs.declared.face.Face.{Face}
use Rattle.kak_faces.specs.Faces.{merged}
use Rattle.face_grounds.specs.declared.ground.Run.{Run}
use Rattle.face_grounds.specs.declared.ground.Over.{Over}
use Rattle.face_grounds.specs.Grounds.{face_in, over_all}

-- a face with another over it, where there is one
abbrev pub seen_over : Option Face → Face → Face
seen_over None face = face
seen_over (Some over) face = merged face over

-- the faces before a place are those, and no run ends behind it
pub record IsDrawn (seen : ℕ → Face) (place : ℕ) (runs : List Run) : Type 0 where
  pub ends : AllByRecursion (λ r. r.end ≤ place) runs
  pub faces : (n : ℕ) (rest : Face) → n < place → face_in runs rest n ≡ seen n

-- the faces from a place on are those of the runs from one on
abbrev pub IsAhead : List Run → Face → ℕ → ℕ → Type 0
IsAhead runs rest run place = (n : ℕ) → place ≤ n → face_in (drop run runs) rest n ≡ face_in runs rest n

-- a run of that number ends at a place or before it
pub record EndsWithin (runs : List Run) (run to : ℕ) : Type 0 where
  pub there : run < length runs
  pub ends : (d : Run) → (slice_index_or runs run d).end ≤ to

-- a run of that number ends behind a place, if there is one
abbrev pub ReachesBehind : List Run → ℕ → ℕ → Type 0
ReachesBehind runs run to = run < length runs → (d : Run) → to < (slice_index_or runs run d).end

-- faces of which each lies over places that are behind those of the one before it, all from a place on
abbrev pub AreAscending : ℕ → List Over → Type 0
AreAscending place [] = Unit {0}
AreAscending place (o ∷ os) = (place ≤ o.from) × (o.from ≤ o.to) × AreAscending o.to os

-- a face that lies over no place
abbrev pub LiesNowhere : Over → Type 0
LiesNowhere o = (n : ℕ) (face : Face) → over_all (o ∷ []) n face ≡ face

-- in what follows, `old` are runs that have the faces of the places before `from`, whatever faces are named, and `new`
-- are those with more of them

-- all places up to before another get one face
abbrev pub AddsRun : Face → ℕ → ℕ → List Run → List Run → Type 0
AddsRun face from to old new =
    (seen : ℕ → Face) → IsDrawn seen from old → ((n : ℕ) → from ≤ n → n < to → face ≡ seen n) → IsDrawn seen to new

-- all places up to before another get the faces that other runs have there, with a face over them, if there is one
abbrev pub GoesOver : Option Face → List Run → Face → ℕ → ℕ → ℕ → List Run → List Run → Type 0
GoesOver over runs rest run from to old new =
    (seen : ℕ → Face) → IsDrawn seen from old → IsAhead runs rest run from
    → ((n : ℕ) → from ≤ n → n < to → seen_over over (face_in runs rest n) ≡ seen n) → IsDrawn seen to new

-- all places up to the end of a face over other runs get what these have, with the face over them where it lies
abbrev pub LaysOne : Over → List Run → Face → ℕ → ℕ → List Run → List Run → Type 0
LaysOne over runs rest run from old new =
    (seen : ℕ → Face) → IsDrawn seen from old → IsAhead runs rest run from
    → ((n : ℕ) → from ≤ n → n < over.from → face_in runs rest n ≡ seen n)
    → ((n : ℕ) → over.from ≤ n → n < over.to → merged (face_in runs rest n) over.face ≡ seen n) → IsDrawn seen over.to new

-- all places get the faces that other runs have there
abbrev pub Finishes : List Run → Face → ℕ → ℕ → List Run → List Run → Type 0
Finishes runs rest run from old new =
    (seen : ℕ → Face) → IsDrawn seen from old → IsAhead runs rest run from
    → ((n : ℕ) → from ≤ n → face_in runs rest n ≡ seen n) → (n : ℕ) → face_in new rest n ≡ seen n

-- runs that are ahead at a place, where others were ahead at one before
abbrev pub StayAhead : List Run → Face → ℕ → ℕ → ℕ → ℕ → Type 0
StayAhead runs rest run from next to = IsAhead runs rest run from → IsAhead runs rest next to
