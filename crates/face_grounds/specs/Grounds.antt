-- The faces of the places of a line, and faces that lie over them.
use Rattle.std.specs.Prelude.{ℕ, ◌&&◌, nat_lt, nat_le, if◌then◌else◌, List, [], ◌∷◌}
use Rattle.kak_faces.specs.declared.face.Face.{Face}
use Rattle.kak_faces.specs.Faces.{merged}
use Rattle.face_grounds.specs.declared.ground.Run.{Run}
use Rattle.face_grounds.specs.declared.ground.Over.{Over}

-- runs, and the face behind the last of them
pub record Seen : Type 0 where
  pub runs : List Run
  pub rest : Face

-- the same face everywhere
abbrev pub everywhere : Face → Seen
everywhere face = record { runs = []; rest = face }

-- the face of a place: that of the first run that ends behind it
abbrev pub face_in : List Run → Face → ℕ → Face
face_in [] rest n = rest
face_in (r ∷ rs) rest n = if nat_lt n r.end then r.face else face_in rs rest n

-- the face of a place of a ground
abbrev pub ground_at : Seen → ℕ → Face
ground_at g n = face_in g.runs g.rest n

-- a face at a place, with all those over it that lie there, one behind the other
abbrev pub over_all : List Over → ℕ → Face → Face
over_all [] n face = face
over_all (o ∷ os) n face = over_all os n (if nat_le o.from n && nat_lt n o.to then merged face o.face else face)
