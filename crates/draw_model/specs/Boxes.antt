-- The box that a client is shown, and what of it a drawing tells.
use Rattle.std.specs.Prelude.{ℕ, ◌==◌, ◌&&◌, Bool, true, false, if◌then◌else◌, List, [], ◌∷◌, map, Option, Some, None, option_map}
use Rattle.std.specs.Str.{bytes_eq}
use Rattle.kak_faces.specs.declared.face.Face.{Face}
use Rattle.kak_faces.specs.Same.{same_face}
use Rattle.face_texts.specs.Palettes.{palette_of}
use Rattle.drawings.specs.declared.drawing.DrawnLine.{DrawnLine}
use Rattle.drawings.specs.declared.drawing.InfoBox.{InfoBox}
use Rattle.drawings.specs.declared.drawing.Info.{Info}
use Rattle.drawings.specs.declared.drawing.Info.TheVariants.{Keep, Hide, Show}
use Rattle.kak_world.specs.declared.own.Note.{Note}
use Rattle.kak_world.specs.declared.own.SentBox.{SentBox}
use Rattle.kak_world.specs.Flat.{Flat, own_of, faces_of, with_own}
use Rattle.line_painting.specs.Atoms.{shown_in, atoms_of}

-- a character before the first of some parts
abbrev pub with_first : ℕ → List (List ℕ) → List (List ℕ)
with_first c [] = (c ∷ []) ∷ []
with_first c (p ∷ ps) = (c ∷ p) ∷ ps

-- the parts of a text between newlines (10)
abbrev pub parts : List ℕ → List (List ℕ)
parts [] = [] ∷ []
parts (c ∷ cs) = if c == 10 then [] ∷ parts cs else with_first c (parts cs)

-- a line of characters in one face: no atom, where there are none
abbrev pub line_in : Face → List ℕ → DrawnLine
line_in face cs = record { atoms = atoms_of (shown_in face cs) }

-- a box as it is drawn
abbrev pub box_drawn : SentBox → InfoBox
box_drawn b = record { title = line_in b.face b.title; content = map (line_in b.face) (parts b.content); face = b.face }

-- a note as a box in a face
abbrev pub boxed : Face → Note → SentBox
boxed face note = record { title = note.title; content = note.content; face = face }

-- the box that a client is to be shown, if it is to be shown one
abbrev pub box_for : ℕ → Flat → Option SentBox
box_for who flat = option_map (boxed (palette_of (faces_of flat)).information) (own_of who flat).info

-- the box that its last drawing had
abbrev pub sent_to : ℕ → Flat → Option SentBox
sent_to who flat = (own_of who flat).sent

-- whether two boxes look the same
abbrev pub same_box : SentBox → SentBox → Bool
same_box a b = bytes_eq a.title b.title && (bytes_eq a.content b.content && same_face a.face b.face)

-- whether a box that was shown, if one was, looks like another
abbrev pub was_shown : Option SentBox → SentBox → Bool
was_shown None now = false
was_shown (Some sent) now = same_box sent now

-- what becomes of the box that was shown, if one was: nothing is told where it looks the same
abbrev pub info_since : Option SentBox → Option SentBox → Info
info_since None None = Keep
info_since (Some sent) None = Hide
info_since sent (Some now) = if was_shown sent now then Keep else Show (box_drawn now)

-- the world after a client was drawn: it is noted with which box
abbrev pub with_drawn : ℕ → Flat → Flat
with_drawn who flat = with_own who (λ o. record o { drawn = true; sent = box_for who flat }) flat
