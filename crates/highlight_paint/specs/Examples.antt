-- The definitions at given highlighters and lines.
use Rattle.std.specs.Prelude.{◌≡◌, ℕ, true, false, List, [], ◌∷◌, Some, None, codes}
use Rattle.kak_faces.specs.declared.colour.NamedColour.TheVariants as named
use Rattle.kak_faces.specs.declared.face.Face.{Face}
use Rattle.kak_faces.specs.Standard.{plain_face, default_face, standard_face}
use Rattle.kak_faces.specs.declared.standard.StandardFace.TheVariants as standard
use Rattle.scope_options.specs.declared.scope.Scope.TheVariants.{Global, Buffer, Window}
use Rattle.scope_options.specs.Scopes.{is_of_client, is_of_buffer}
use Rattle.face_grounds.specs.declared.ground.Over.{Over}
use Rattle.face_texts.specs.declared.text.FaceText.{FaceText}
use Rattle.face_texts.specs.Texts.{face_on}
use Rattle.face_texts.specs.Given.{given}
use Rattle.highlight_paint.specs.declared.highlighters.PaintError.TheVariants.{BadPath, PathTaken}
use Rattle.highlight_paint.specs.declared.painter.GroupFace.{GroupFace}
use Rattle.highlight_paint.specs.Painters.{Fills, Numbers, MarksLine, MarksColumn, ShowsWhitespaces, HoldsOthers, Highlighter, highlighter, painting}
use Rattle.highlight_paint.specs.Paths.{is_below, is_child}
use Rattle.highlight_paint.specs.Highlighters.{paint_refusal, is_held, with_highlighter, without_highlighter, without_scopes}
use Rattle.highlight_paint.specs.Overs.{laid, matches_over, overs_of}
use Rattle.highlight_paint.specs.Painting.{painted_face}
use Rattle.highlight_paint.specs.Numbers.{number_chars, gutter_of}

-- red letters, and a green ground
abbrev pub red_letters : Face
red_letters = plain_face named.Red named.Default

abbrev pub green_ground : Face
green_ground = plain_face named.Default named.Green

abbrev pub in_red : FaceText
in_red = face_on red_letters None

abbrev pub on_green : FaceText
on_green = face_on green_ground None

-- the face of a group
abbrev pub group_in : ℕ → FaceText → GroupFace
group_in n face = record { group = n; face = face }

-- what a pattern lays over the first line, where group 1 is red and group 2 has a green ground
abbrev pub laid_by : List ℕ → List ℕ → List Over
laid_by source line = matches_over given source (group_in 1 in_red ∷ group_in 2 on_green ∷ []) 0 line

-- which faces the matches of patterns lay over lines
pub record MatchExamples : Type 0 where
  -- the characters of the group alone
  pub a_group : laid_by (codes "(b)c") (codes "abc\n") ≡ laid 1 2 red_letters ∷ []
  -- one group after another, each match by match
  pub two_groups : laid_by (codes "(a)(b)") (codes "abab\n") ≡ laid 0 1 red_letters ∷ laid 2 3 red_letters ∷ laid 1 2 green_ground ∷ laid 3 4 green_ground ∷ []
  -- a group that takes no part lays nothing
  pub no_part : laid_by (codes "(a)|(b)") (codes "b\n") ≡ laid 0 1 green_ground ∷ []
  -- nor does one that the pattern hasn't
  pub no_group : laid_by (codes "b") (codes "b\n") ≡ []
  -- a pattern doesn't see the newline
  pub newline : laid_by (codes "(b\n)|(b)") (codes "ab\n") ≡ laid 1 2 green_ground ∷ []
  -- places are counted in characters
  pub wide_character : laid_by (codes "(b)") (233 ∷ codes "b\n") ≡ laid 1 2 red_letters ∷ []
  pub wide_match : laid_by (40 ∷ 195 ∷ 169 ∷ codes ")b") (233 ∷ codes "b\n") ≡ laid 0 1 red_letters ∷ []

-- a global group with a highlighter in it that has another one below, and one of a window and one of a buffer
abbrev pub five : List Highlighter
five =
    highlighter (Window 0 3) (codes "w") (Fills in_red) ∷ highlighter Global (codes "g") HoldsOthers
    ∷ highlighter Global (codes "g/a") (Fills on_green) ∷ highlighter (Buffer 3) (codes "b") ShowsWhitespaces
    ∷ highlighter Global (codes "c") (MarksLine 1 in_red) ∷ []

-- highlighters that are added, replaced and removed
pub record HighlighterExamples : Type 0 where
  -- paths
  pub below : is_below (codes "g") (codes "g/a") ≡ true
  pub far_below : is_below (codes "g") (codes "g/a/b") ≡ true
  pub longer_name : is_below (codes "g") (codes "ga") ≡ false
  pub not_below_itself : is_below (codes "g") (codes "g") ≡ false
  pub child : is_child (codes "g") (codes "g/a") ≡ true
  pub no_child : is_child (codes "g") (codes "g/a/b") ≡ false
  -- one name needs no group; any other path needs one at its scope, and no other kind
  pub one_name : paint_refusal Global (codes "d") false five ≡ None
  pub in_group : paint_refusal Global (codes "g/d") false five ≡ None
  pub no_group : paint_refusal Global (codes "h/d") false five ≡ Some BadPath
  pub other_kind : paint_refusal Global (codes "c/d") false five ≡ Some BadPath
  pub other_scope : paint_refusal (Buffer 3) (codes "g/d") false five ≡ Some BadPath
  pub grandchild : paint_refusal Global (codes "g/a/b") true five ≡ Some BadPath
  -- a path that is taken may be replaced
  pub taken : paint_refusal Global (codes "c") false five ≡ Some PathTaken
  pub taken_elsewhere : paint_refusal (Window 0 3) (codes "c") false five ≡ None
  pub replaces : paint_refusal Global (codes "c") true five ≡ None
  -- the new one comes last, or in place of the old one, which loses those below it
  pub at_the_end : painting 9 9 (with_highlighter Global (codes "d") ShowsWhitespaces five) ≡ HoldsOthers ∷ Fills on_green ∷ MarksLine 1 in_red ∷ ShowsWhitespaces ∷ []
  pub in_its_place : painting 9 9 (with_highlighter Global (codes "g") ShowsWhitespaces five) ≡ ShowsWhitespaces ∷ MarksLine 1 in_red ∷ []
  pub group_by_group : painting 9 9 (with_highlighter Global (codes "g") HoldsOthers five) ≡ HoldsOthers ∷ MarksLine 1 in_red ∷ []
  -- those below a removed one go with it
  pub removed : painting 9 9 (without_highlighter Global (codes "g") five) ≡ MarksLine 1 in_red ∷ []
  pub at_its_scope : is_held (Buffer 3) (codes "b") (without_highlighter Global (codes "b") five) ≡ true
  -- what goes with a client, and with a buffer
  pub client_gone : painting 3 0 (without_scopes (is_of_client 0) five) ≡ HoldsOthers ∷ Fills on_green ∷ MarksLine 1 in_red ∷ ShowsWhitespaces ∷ []
  pub buffer_gone : painting 3 0 (without_scopes (is_of_buffer 3) five) ≡ HoldsOthers ∷ Fills on_green ∷ MarksLine 1 in_red ∷ []

-- the face of a place of the first line, by the five above
abbrev pub face_by_five : ℕ → ℕ → List ℕ → ℕ → Face
face_by_five buffer client line i = painted_face given (painting buffer client five) 0 line i

-- which faces other highlighters lay over lines, and which is seen
pub record WorkedExamples : Type 0 where
  -- all of a line has it, with the newline
  pub fill : overs_of given 4 (codes "ab\n") (Fills in_red) ≡ laid 0 3 red_letters ∷ []
  -- lines and columns count from 1
  pub a_line : overs_of given 4 (codes "ab\n") (MarksLine 5 in_red) ≡ laid 0 3 red_letters ∷ []
  pub another_line : overs_of given 4 (codes "ab\n") (MarksLine 4 in_red) ≡ []
  pub no_line : overs_of given 0 (codes "ab\n") (MarksLine 0 in_red) ≡ []
  pub a_column : painted_face given (MarksColumn 2 in_red ∷ []) 0 (codes "ab\n") 1 ≡ red_letters
  pub before_it : painted_face given (MarksColumn 2 in_red ∷ []) 0 (codes "ab\n") 0 ≡ default_face
  pub no_column : painted_face given (MarksColumn 0 in_red ∷ []) 0 (codes "ab\n") 0 ≡ default_face
  -- spaces, tabs and the newline
  pub whitespace : overs_of given 0 (codes "a \tb\n") ShowsWhitespaces ≡ laid 1 2 (standard_face standard.Whitespace) ∷ laid 2 3 (standard_face standard.Whitespace) ∷ laid 4 5 (standard_face standard.Whitespace) ∷ []
  -- numbers and groups lay nothing
  pub numbers : overs_of given 0 (codes "a\n") (Numbers true (codes "|")) ≡ []
  pub group : overs_of given 0 (codes "a\n") HoldsOthers ≡ []
  -- the global ones lie below the buffer's, and these below the window's, whichever was added first
  pub order : painting 3 0 five ≡ HoldsOthers ∷ Fills on_green ∷ MarksLine 1 in_red ∷ ShowsWhitespaces ∷ Fills in_red ∷ []
  pub other_buffer : painting 4 0 five ≡ HoldsOthers ∷ Fills on_green ∷ MarksLine 1 in_red ∷ []
  pub other_client : painting 3 1 five ≡ HoldsOthers ∷ Fills on_green ∷ MarksLine 1 in_red ∷ ShowsWhitespaces ∷ []
  -- numbers are as wide as the number of lines, and each highlighter's stand behind those of the one before it
  pub first_of_ten : number_chars 10 0 (codes "|") ≡ codes " 1|"
  pub last_of_ten : number_chars 10 9 (codes "|") ≡ codes "10|"
  pub no_gutter : gutter_of 8 10 (Fills in_red ∷ []) ≡ 0
  pub gutter : gutter_of 8 10 (Numbers false (codes "|") ∷ ShowsWhitespaces ∷ []) ≡ 3
  pub tab_behind : gutter_of 8 10 (Numbers false (codes "|") ∷ Numbers true (codes "\t") ∷ []) ≡ 8
  -- faces are merged
  pub merged_face : face_by_five 4 0 (codes "ab\n") 1 ≡ plain_face named.Red named.Green
  pub bare : painted_face given [] 0 (codes "ab\n") 1 ≡ default_face
