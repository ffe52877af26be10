-- The faces of the lines of a part of a text, under those that highlighters lay.
use Rattle.std.specs.Prelude.{◌≡◌, ◌≢◌, ℕ, ◌+◌, ◌-◌, ◌<◌, ◌≤◌, List, length, slice_index_or}
use Rattle.kak_faces.specs.declared.face.Face.{Face}
use Rattle.text_model.specs.Texts.{line_count, nth_line}
use Rattle.face_grounds.specs.declared.ground.Over.{Over}
use Rattle.face_grounds.specs.Grounds.{Seen, ground_at, over_all}
use Rattle.face_texts.specs.declared.rows.NamedFace.{NamedFace}
use Rattle.face_texts.specs.Palettes.{palette_of}
use Rattle.highlight_paint.specs.Painters.{Paints}
use Rattle.highlight_paint.specs.Overs.{overs_on}

-- the face of a place of the n-th line under highlighters: `Default`, with all those over it that they lay there
abbrev pub painted_face : List NamedFace → List Paints → ℕ → List ℕ → ℕ → Face
painted_face faces paints n line i = over_all (overs_on faces paints n line) i (palette_of faces).default

-- grounds of the lines of a text from one to before another, each place with its face
pub record ArePainted (faces : List NamedFace) (paints : List Paints) (text : List ℕ) (top below : ℕ) (grounds : List Seen) : Type 0 where
  pub count : length grounds ≡ below - top
  pub faces_are : (k i : ℕ) (d : Seen) → k < below - top → ground_at (slice_index_or grounds k d) i ≡ painted_face faces paints (top + k) (nth_line text (top + k)) i

-- lines that are there, and as many grounds
pub record IsPart (text : List ℕ) (top below count : ℕ) : Type 0 where
  pub there : below ≤ line_count text
  pub all : top + count ≡ below

-- faces were laid over one of some grounds, and over no other
pub record IsLaidAt (k : ℕ) (overs : List Over) (old new : List Seen) : Type 0 where
  pub same : length new ≡ length old
  pub here : (i : ℕ) (d : Seen) → ground_at (slice_index_or new k d) i ≡ over_all overs i (ground_at (slice_index_or old k d) i)
  pub others : (j : ℕ) (d : Seen) → j ≢ k → slice_index_or new j d ≡ slice_index_or old j d

-- faces were laid over the grounds of lines from one on, by what lies over a line of a number
pub record AreLaid (overs : ℕ → List ℕ → List Over) (text : List ℕ) (top : ℕ) (old new : List Seen) : Type 0 where
  pub same : length new ≡ length old
  pub each : (k i : ℕ) (d : Seen) → k < length old → ground_at (slice_index_or new k d) i ≡ over_all (overs (top + k) (nth_line text (top + k))) i (ground_at (slice_index_or old k d) i)

-- the same of so many of them
pub record AreLaidUpto (upto : ℕ) (overs : ℕ → List ℕ → List Over) (text : List ℕ) (top : ℕ) (old new : List Seen) : Type 0 where
  pub same : length new ≡ length old
  pub each : (k i : ℕ) (d : Seen) → k < upto → ground_at (slice_index_or new k d) i ≡ over_all (overs (top + k) (nth_line text (top + k))) i (ground_at (slice_index_or old k d) i)
  pub others : (k : ℕ) (d : Seen) → upto ≤ k → slice_index_or new k d ≡ slice_index_or old k d
