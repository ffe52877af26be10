-- Faces and highlighters, at given words and worlds.
use Rattle.std.specs.Prelude.{◌≡◌, ℕ, true, false, List, [], ◌∷◌, None, Some, Ok, Err, codes}
use Rattle.std.specs.declared.result.Result.{Result}
use Rattle.kak_faces.specs.declared.colour.NamedColour.TheVariants.{Red, Default}
use Rattle.kak_faces.specs.Standard.{plain_face}
use Rattle.scope_options.specs.declared.scope.Scope.TheVariants.{Global, Buffer}
use Rattle.command_forms.specs.declared.painters.HighlighterWords.{HighlighterWords}
use Rattle.command_forms.specs.declared.painters.PainterWords.{PainterWords}
use Rattle.command_forms.specs.declared.painters.PainterWords.TheVariants as words
use Rattle.face_texts.specs.declared.text.FaceText.{FaceText}
use Rattle.face_texts.specs.Texts.{face_on}
use Rattle.face_texts.specs.Tables.{named_row, based_on}
use Rattle.face_texts.specs.Given.{given}
use Rattle.highlight_paint.specs.declared.painter.GroupFace.{GroupFace}
use Rattle.highlight_paint.specs.Painters.{Fills, HoldsOthers, highlighter}
use Rattle.kak_world.specs.declared.ask.EditError.{EditError}
use Rattle.kak_world.specs.declared.ask.EditError.TheVariants.{Command, BadPattern}
use Rattle.kak_world.specs.declared.command_error.CommandError.TheVariants.{BadFace, BadValue, NoSuchScope, NoSuchFace, FaceCycle, NoSuchHighlighter, HighlighterExists}
use Rattle.kak_world.specs.declared.purpose.NewHighlighter.{NewHighlighter}
use Rattle.kak_world.specs.declared.purpose.Wanted.TheVariants.{Paints}
use Rattle.kak_world.specs.Flat.{Flat, opening, with_faces, with_highlighters}
use Rattle.kak_world.specs.Scoping.{highlighter_added, highlighter_removed}
use Rattle.kak_world.specs.Rows.{RowEnd, does, fails}
use Rattle.command_set.specs.Buffers.{refuses}
use Rattle.command_set.specs.Boxes.{note_of}
use Rattle.command_set.specs.Faces.{set_face_row, unset_face_row}
use Rattle.command_set.specs.Finishing.{row_finish}
use Rattle.command_set.specs.Painters.{group_told, groups_told, full_path}
use Rattle.command_set.specs.Painting.{add_row, removed_at, place_at}

abbrev pub red : FaceText
red = face_on (plain_face Red Default) None

abbrev pub group_face : ℕ → FaceText → GroupFace
group_face n face = record { group = n; face = face }

-- the group of a word, where the given faces are set
abbrev pub group_of : List ℕ → Result GroupFace EditError
group_of word = group_told given word

abbrev pub bad_value : Result GroupFace EditError
bad_value = Err (Command BadValue)

-- what a world gives that is as before anything happened
abbrev pub sets_face : List ℕ → List ℕ → List ℕ → RowEnd
sets_face scope name word = set_face_row scope name word opening

-- a highlighter by its path, its type and words, and what they say
abbrev pub added : List ℕ → List (List ℕ) → PainterWords → Flat → RowEnd
added path ws painter flat = add_row (record { replace = false; path = path; words = ws; painter = painter }) 0 flat

abbrev pub fills_red : List ℕ → Flat → RowEnd
fills_red path flat = added path (codes "fill" ∷ codes "red" ∷ []) (words.Fill (codes "red")) flat

abbrev pub marks_line : List ℕ → List ℕ → List ℕ → RowEnd
marks_line path number face = added path (codes "line" ∷ number ∷ face ∷ []) (words.Line (record { number = number; face = face })) opening

-- a world in which a highlighter and a group are there
abbrev pub painted : Flat
painted =
    with_highlighters (highlighter Global (codes "fill_red") (Fills red) ∷ highlighter Global (codes "g") HoldsOthers ∷ []) opening

abbrev pub removes : List ℕ → Flat → RowEnd
removes path flat = removed_at (place_at false path 0 flat) path flat

abbrev pub waiting : NewHighlighter
waiting = record { scope = Global; path = codes "a"; groups = []; replace = false }

pub record NamingExamples : Type 0 where
  pub given_name : full_path (codes "global/a") (codes "fill" ∷ codes "red" ∷ []) ≡ codes "global/a"
  pub made_name : full_path (codes "global/") (codes "fill" ∷ codes "red" ∷ []) ≡ codes "global/fill_red"
  pub made_below : full_path (codes "window/g/") (codes "group" ∷ []) ≡ codes "window/g/group"
  pub slash_in_name : full_path (codes "buffer/") (codes "regex" ∷ codes "a/b" ∷ codes "0:red" ∷ []) ≡ codes "buffer/regex_a<slash>b_0:red"
  pub scope_alone : full_path (codes "global") (codes "group" ∷ []) ≡ codes "global"

pub record WordExamples : Type 0 where
  pub group : group_of (codes "01:red") ≡ Ok (group_face 1 red)
  pub face_name : group_of (codes "0:Error") ≡ Ok (group_face 0 (based_on (codes "Error")))
  pub great_number : group_of (codes "99999999999:") ≡ Ok (group_face 4294967295 (face_on (plain_face Default Default) None))
  pub no_colon : group_of (codes "red") ≡ bad_value
  pub group_name : group_of (codes "x:red") ≡ bad_value
  pub no_number : group_of (codes ":red") ≡ bad_value
  pub number_before_face : group_of (codes "x:mauve") ≡ bad_value
  pub face_from_its_start : group_of (codes "10:red,mauve") ≡ Err (Command (BadFace 4))
  pub first_from_the_left : groups_told given (codes "0:red" ∷ codes "1:mauve" ∷ codes "x" ∷ []) ≡ Err (Command (BadFace 0))

pub record FaceExamples : Type 0 where
  pub scope_first : sets_face (codes "window") (codes "A") (codes "mauve") ≡ refuses (NoSuchScope (codes "window")) opening
  pub bad_face : sets_face (codes "global") (codes "A") (codes "red,") ≡ refuses (BadFace 4) opening
  pub cycle : sets_face (codes "global") (codes "A") (codes "red@A") ≡ refuses (FaceCycle (codes "A")) opening
  pub itself : set_face_row (codes "global") (codes "A") (codes "A") (with_faces (named_row (codes "A") red ∷ []) opening)
      ≡ refuses (FaceCycle (codes "A")) (with_faces (named_row (codes "A") red ∷ []) opening)
  pub set_again : set_face_row (codes "global") (codes "A") (codes "red") (with_faces (named_row (codes "A") (based_on (codes "B")) ∷ []) opening)
      ≡ does (with_faces (named_row (codes "A") red ∷ []) (with_faces (named_row (codes "A") (based_on (codes "B")) ∷ []) opening))
  pub unset : unset_face_row (codes "global") (codes "A") (with_faces (named_row (codes "A") red ∷ []) opening)
      ≡ does (with_faces [] (with_faces (named_row (codes "A") red ∷ []) opening))
  pub unset_none : unset_face_row (codes "global") (codes "A") opening ≡ refuses (NoSuchFace (codes "A")) opening
  pub unset_elsewhere : unset_face_row (codes "buffer") (codes "A") opening ≡ refuses (NoSuchScope (codes "buffer")) opening

pub record PathExamples : Type 0 where
  pub added_one : fills_red (codes "global/") opening ≡ does (highlighter_added Global (codes "fill_red") (Fills red) opening)
  pub in_the_buffer : fills_red (codes "buffer/a") opening ≡ does (highlighter_added (Buffer 0) (codes "a") (Fills red) opening)
  pub exists : fills_red (codes "global/") painted ≡ refuses (HighlighterExists (codes "global/fill_red")) painted
  pub in_a_group : fills_red (codes "global/g/") painted ≡ does (highlighter_added Global (codes "g/fill_red") (Fills red) painted)
  pub no_group : fills_red (codes "global/fill_red/a") painted ≡ refuses (NoSuchHighlighter (codes "global/fill_red/a")) painted
  pub as_written : fills_red (codes "global/x/") opening ≡ refuses (NoSuchHighlighter (codes "global/x/")) opening
  pub no_scope : fills_red (codes "globe/a") opening ≡ refuses (NoSuchHighlighter (codes "globe/a")) opening
  pub scope_alone : fills_red (codes "global") opening ≡ refuses (NoSuchHighlighter (codes "global")) opening
  -- the path is judged before numbers, and these before faces
  pub path_first : marks_line (codes "globe/") (codes "x") (codes "mauve") ≡ refuses (NoSuchHighlighter (codes "globe/")) opening
  pub number_first : marks_line (codes "global/") (codes "x") (codes "mauve") ≡ refuses BadValue opening
  pub face_last : marks_line (codes "global/") (codes "3") (codes "mauve") ≡ refuses (BadFace 0) opening
  pub removed : removes (codes "global/g") painted ≡ does (highlighter_removed Global (codes "g") painted)
  pub removed_none : removes (codes "global/x") painted ≡ refuses (NoSuchHighlighter (codes "global/x")) painted
  pub removed_scope : removes (codes "global") painted ≡ refuses (NoSuchHighlighter (codes "global")) painted
  pub removed_all : removes (codes "global/") painted ≡ refuses (NoSuchHighlighter (codes "global/")) painted
  -- a pattern that was refused leaves no highlighter
  pub refused_pattern : row_finish (Paints waiting) None 0 opening ≡ fails BadPattern opening

pub record BoxExamples : Type 0 where
  pub hidden : note_of (codes "t") None ≡ None
  pub empty_text : note_of [] (Some []) ≡ Some (record { title = []; content = [] })
  pub wide : note_of (codes "t") (Some (195 ∷ 169 ∷ 10 ∷ [])) ≡ Some (record { title = codes "t"; content = 233 ∷ 10 ∷ [] })

pub record PaintingExamples : Type 0 where
  pub naming : NamingExamples
  pub words : WordExamples
  pub faces : FaceExamples
  pub paths : PathExamples
  pub boxes : BoxExamples
