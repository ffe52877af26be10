-- The faces that a highlighter lays over a line. A line is given with its newline, and with its number from 0.
use Rattle.std.specs.Prelude.{ℕ, ◌+◌, ◌-◌, ◌==◌, ◌||◌, Bool, List, [], ◌∷◌, length, map, filter, flat_map, slice_range, if◌then◌else◌, encode_utf8_all}
use Rattle.kak_faces.specs.declared.face.Face.{Face}
use Rattle.face_grounds.specs.declared.ground.Over.{Over}
use Rattle.face_texts.specs.declared.rows.NamedFace.{NamedFace}
use Rattle.face_texts.specs.Tables.{shown}
use Rattle.face_texts.specs.Palettes.{palette_of}
use Rattle.regex_ports.specs.declared.pattern.GroupSpan.{GroupSpan}
use Rattle.regex_ports.specs.Grouping.{groups_found}
use Rattle.regex_ports.specs.Matching.{chars_before}
use Rattle.highlight_paint.specs.declared.brushes.Brush.{Brush}
use Rattle.highlight_paint.specs.declared.brushes.Brush.TheVariants.{Everywhere, OnLine, OnColumn, OnWhitespaces}
use Rattle.highlight_paint.specs.declared.matches.SeenGroup.{SeenGroup}
use Rattle.highlight_paint.specs.declared.painter.GroupFace.{GroupFace}
use Rattle.highlight_paint.specs.Painters.{Paints, Fills, Matches, Numbers, MarksLine, MarksColumn, ShowsWhitespaces, HoldsOthers}

-- a face over the places from one to before another
abbrev pub laid : ℕ → ℕ → Face → Over
laid from to face = record { from = from; to = to; face = face }

-- a face over all of a line
abbrev pub over_whole : List ℕ → Face → List Over
over_whole line face = laid 0 (length line) face ∷ []

-- whether a character is a space (32), a tab (9) or a newline (10)
abbrev pub is_whitespace : ℕ → Bool
is_whitespace c = c == 32 || c == 9 || c == 10

-- a face over each of these, where the first of the characters has a place
abbrev pub whitespace_overs : Face → ℕ → List ℕ → List Over
whitespace_overs face i [] = []
whitespace_overs face i (c ∷ cs) =
    if is_whitespace c then laid i (i + 1) face ∷ whitespace_overs face (i + 1) cs else whitespace_overs face (i + 1) cs

-- what a highlighter without a pattern lays, in the face in which it is seen. The column before the first has no place
abbrev pub brush_overs : Brush → ℕ → List ℕ → List Over
brush_overs (Everywhere face) n line = over_whole line face
brush_overs (OnLine number face) n line = if n + 1 == number then over_whole line face else []
brush_overs (OnColumn number face) n line = laid (number - 1) number face ∷ []
brush_overs (OnWhitespaces face) n line = whitespace_overs face 0 line

-- the bytes of a line without its newline, which are all that a pattern is searched for in
abbrev pub line_bytes : List ℕ → List ℕ
line_bytes line = encode_utf8_all (slice_range line 0 (length line - 1))

-- a face over the characters of a range of bytes: those that have their first byte in it
abbrev pub span_over : List ℕ → Face → GroupSpan → Over
span_over line face s = laid (chars_before line s.span.start) (chars_before line s.span.end) face

-- a group in the face in which it is seen
abbrev pub seen_group : List NamedFace → GroupFace → SeenGroup
seen_group faces g = record { group = g.group; face = shown faces g.face }

-- its face over its characters, match by match, of the groups that were found
abbrev pub seen_overs : List ℕ → List GroupSpan → SeenGroup → List Over
seen_overs line found g = map (span_over line g.face) (filter (λ s. s.group == g.group) found)

-- the faces of groups over the characters that they have in the matches of a pattern, one group after another
abbrev pub matches_over : List NamedFace → List ℕ → List GroupFace → ℕ → List ℕ → List Over
matches_over faces source groups n line =
    flat_map (seen_overs line (groups_found source (line_bytes line))) (map (seen_group faces) groups)

-- what a highlighter lays over a line
abbrev pub overs_of : List NamedFace → ℕ → List ℕ → Paints → List Over
overs_of faces n line (Fills text) = brush_overs (Everywhere (shown faces text)) n line
overs_of faces n line (Matches source groups) = matches_over faces source groups n line
overs_of faces n line (Numbers marked separator) = []
overs_of faces n line (MarksLine number text) = brush_overs (OnLine number (shown faces text)) n line
overs_of faces n line (MarksColumn number text) = brush_overs (OnColumn number (shown faces text)) n line
overs_of faces n line ShowsWhitespaces = brush_overs (OnWhitespaces (palette_of faces).whitespace) n line
overs_of faces n line HoldsOthers = []

-- what some of them lay, one behind the other
abbrev pub overs_on : List NamedFace → List Paints → ℕ → List ℕ → List Over
overs_on faces paints n line = flat_map (overs_of faces n line) paints
