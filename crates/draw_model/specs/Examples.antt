-- Worked examples of drawings, which hold by computation.
use Rattle.std.specs.declared.option.Option.{Option}
use Rattle.std.specs.Prelude.{◌≡◌, ℕ, true, false, Some, None, List, [], ◌∷◌, map, codes}
use Rattle.list_model.specs.Ranges.{only}
use Rattle.edit_line.specs.Halves.{Halves, empty}
use Rattle.window_view.specs.Sizes.{sized}
use Rattle.kak_faces.specs.declared.colour.NamedColour.TheVariants as named
use Rattle.kak_faces.specs.declared.face.Face.{Face}
use Rattle.kak_faces.specs.declared.standard.StandardFace.TheVariants as standard
use Rattle.kak_faces.specs.Faces.{merged}
use Rattle.kak_faces.specs.Standard.{plain_face, default_face, standard_face}
use Rattle.drawings.specs.declared.drawing.Info.TheVariants.{Keep, Hide, Show}
use Rattle.kak_world.specs.declared.own.Mode.TheVariants.{Normal, Insert, Prompt}
use Rattle.kak_world.specs.declared.own.StatusText.TheVariants.{Quiet, Said, Refused}
use Rattle.directions.specs.declared.direction.Direction.TheVariants.{Forward, Backward}
use Rattle.kak_world.specs.declared.purpose.Use.TheVariants.{Select, Split, Keep as KeepThose, Drop, Search, Reach}
use Rattle.kak_world.specs.declared.purpose.Purpose.TheVariants.{Commands, Pattern}
use Rattle.kak_world.specs.declared.own.Note.{Note}
use Rattle.kak_world.specs.Flat.{Flat, made_buffer, first_rest, first_scoped, opening, joined_by, with_sels, with_own, with_faces, with_highlighters, view_of}
use Rattle.face_texts.specs.Texts.{face_on}
use Rattle.scope_options.specs.declared.scope.Scope.TheVariants.{Global, Window}
use Rattle.highlight_paint.specs.Painters.{Paints, highlighter, Fills, Numbers, ShowsWhitespaces}
use Rattle.line_painting.specs.Atoms.{atoms_of}
use Rattle.line_painting.specs.Painting.{alone}
use Rattle.line_painting.specs.Examples.{atom, atoms_line, cursor_atom, faced, number_face, in_red, first_palette, whole, narrow, three}
use Rattle.draw_model.specs.Boxes.{parts, boxed, info_since, with_drawn}
use Rattle.draw_model.specs.Drawings.{prompt_name, status_line, cursor_drawn, main_column, main_cells, main_cursor, mode_line_text, after_following, drawing_of}

-- the world that a first client sees
abbrev pub opened_flat : Flat
opened_flat = joined_by 0 opening

-- a world with a line of ASCII characters
abbrev pub holding : List ℕ → Flat
holding text = joined_by 0 (record { buffers = Some (made_buffer (codes "*scratch*") false text) ∷ []; clients = []; rest = first_rest; scoped = first_scoped })

-- a prompt with this before its cursor, and this from it on
abbrev pub halves : List ℕ → List ℕ → Halves
halves before behind = record { before = before; behind = behind }

-- of where the main cursor stands
pub record PlaceExamples : Type 0 where
  pub column_behind_a_tab : main_column 8 (codes "x\na\tb\n") (alone true (only 4)) ≡ 8
  pub column_behind_wide : main_column 8 (0x6F22 ∷ 0x61 ∷ 10 ∷ []) (alone true (only 1)) ≡ 2
  pub column_of_a_mark : main_column 8 (0x65 ∷ 0x0301 ∷ 10 ∷ []) (alone true (only 1)) ≡ 1
  pub cells_of_a_tab : main_cells 8 (codes "x\na\tb\n") (alone true (only 3)) ≡ 7
  pub cells_of_wide : main_cells 8 (0x6F22 ∷ 0x61 ∷ 10 ∷ []) (alone true (only 0)) ≡ 2
  pub cells_of_a_mark : main_cells 8 (0x65 ∷ 0x0301 ∷ 10 ∷ []) (alone true (only 1)) ≡ 0
  pub prompt_with_a_tab : cursor_drawn 8 Prompt 0 1 whole 0 Commands (halves (codes "a\tb") (codes "\tc")) ≡ record { prompt = true; line = 0; column = 9 }
  pub prompt_with_wide : cursor_drawn 8 Prompt 0 1 whole 0 Commands (halves (0x6F22 ∷ []) []) ≡ record { prompt = true; line = 0; column = 3 }
  pub prompt_with_a_mark : cursor_drawn 8 Prompt 0 1 whole 0 Commands (halves (0x65 ∷ 0x0301 ∷ []) []) ≡ record { prompt = true; line = 0; column = 2 }
  -- ten tabs fill the window; the cursor on the tenth is whole in it, and one on the eleventh brings in all its cells
  pub whole_tab_is_followed : view_of 0 (after_following 0 (with_sels 0 (alone true (only 9)) (holding (codes "\t\t\t\t\t\t\t\t\t\t\t\n")))) ≡ whole
  pub next_tab_is_followed : view_of 0 (after_following 0 (with_sels 0 (alone true (only 10)) (holding (codes "\t\t\t\t\t\t\t\t\t\t\t\n"))))
      ≡ record { top = 0; left = 8; rows = 24; columns = 80 }
  -- of three lines the last one comes into a window of two rows
  pub two_rows_are_followed : view_of 0 (after_following 0 (with_own 0 (λ o. record o { size = sized 2 3 }) (with_sels 0 (alone true (only 4)) (holding (codes "a\nb\nc\n")))))
      ≡ record { top = 1; left = 0; rows = 2; columns = 3 }

-- a note
abbrev pub note : List ℕ → List ℕ → Note
note title content = record { title = title; content = content }

-- the face of the given name for boxes
abbrev pub yellow : Face
yellow = plain_face named.Black named.Yellow

-- of boxes
pub record BoxExamples : Type 0 where
  pub no_parts : parts [] ≡ [] ∷ []
  pub two_parts : parts (codes "a\nb") ≡ codes "a" ∷ codes "b" ∷ []
  pub empty_parts : parts (codes "\na\n") ≡ [] ∷ codes "a" ∷ [] ∷ []
  pub none : info_since None None ≡ Keep
  pub first : info_since None (Some (boxed yellow (note (codes "t") (codes "a\n")))) ≡ Show (record { title = atoms_line (faced (codes "t") yellow ∷ []); content = atoms_line (faced (codes "a") yellow ∷ []) ∷ atoms_line [] ∷ []; face = yellow })
  pub empty_box : info_since None (Some (boxed yellow (note [] []))) ≡ Show (record { title = atoms_line []; content = atoms_line [] ∷ []; face = yellow })
  pub again : info_since (Some (boxed yellow (note [] (codes "a")))) (Some (boxed yellow (note [] (codes "a")))) ≡ Keep
  pub other_title : info_since (Some (boxed yellow (note (codes "t") []))) (Some (boxed yellow (note [] []))) ≡ Show (record { title = atoms_line []; content = atoms_line [] ∷ []; face = yellow })
  pub other_content : info_since (Some (boxed yellow (note [] (codes "a")))) (Some (boxed yellow (note [] []))) ≡ Show (record { title = atoms_line []; content = atoms_line [] ∷ []; face = yellow })
  pub other_face : info_since (Some (boxed in_red (note [] []))) (Some (boxed yellow (note [] []))) ≡ Show (record { title = atoms_line []; content = atoms_line [] ∷ []; face = yellow })
  pub gone : info_since (Some (boxed yellow (note [] []))) None ≡ Hide

-- a world in which a client is to be shown a note
abbrev pub telling : Option Note → Flat → Flat
telling info flat = with_own 0 (λ o. record o { info = info }) flat

-- a world with a highlighter for all
abbrev pub highlighted : Paints → Flat → Flat
highlighted paints flat = with_highlighters (highlighter Global (codes "n") paints ∷ []) flat

-- of drawings with boxes, highlighters and faces
pub record ShownExamples : Type 0 where
  pub a_box : (drawing_of 0 (telling (Some (note [] (codes "a"))) opened_flat)).info ≡ Show (record { title = atoms_line []; content = atoms_line (faced (codes "a") yellow ∷ []) ∷ []; face = yellow })
  -- it is told once, and that it is gone is told once
  pub told_once : (drawing_of 0 (with_drawn 0 (telling (Some (note [] (codes "a"))) opened_flat))).info ≡ Keep
  pub gone_once : (drawing_of 0 (telling None (with_drawn 0 (telling (Some (note [] (codes "a"))) opened_flat)))).info ≡ Hide
  pub gone_before : (drawing_of 0 (with_drawn 0 (telling None (with_drawn 0 (telling (Some (note [] (codes "a"))) opened_flat))))).info ≡ Keep
  -- the numbers stand before the text, and the cursor behind them
  pub numbered : (drawing_of 0 (highlighted (Numbers true (codes "|")) opened_flat)).lines ≡ atoms_line (faced (codes "1|") number_face ∷ atom (codes "\n") named.Black named.Cyan ∷ []) ∷ []
  pub numbered_cursor : (drawing_of 0 (highlighted (Numbers true (codes "|")) opened_flat)).cursor ≡ record { prompt = false; line = 0; column = 2 }
  pub filled : (drawing_of 0 (highlighted (Fills (face_on in_red None)) (holding (codes "ab\n")))).lines ≡ atoms_line (cursor_atom (codes "a") ∷ faced (codes "b\n") in_red ∷ []) ∷ []
  pub signed : (drawing_of 0 (highlighted ShowsWhitespaces opened_flat)).lines ≡ atoms_line (faced (0xAC ∷ []) (merged (standard_face standard.Whitespace) (plain_face named.Black named.Cyan)) ∷ []) ∷ []
  -- what is for another client's window isn't for this one
  pub others : (drawing_of 0 (with_highlighters (highlighter (Window 1 0) (codes "n") (Numbers true (codes "|")) ∷ []) opened_flat)).cursor ≡ record { prompt = false; line = 0; column = 0 }
  -- the window follows in what the numbers leave
  pub followed_behind_numbers : view_of 0 (after_following 0 (highlighted (Numbers false (codes "||")) (with_own 0 (λ o. record o { size = sized 2 4 }) (with_sels 0 (alone true (only 3)) (holding (codes "abcd\n"))))))
      ≡ record { top = 0; left = 3; rows = 2; columns = 4 }
  -- faces are those that are set
  pub other_status : (drawing_of 0 (with_faces (record { name = codes "StatusLine"; text = face_on in_red None } ∷ []) opened_flat)).status_face ≡ in_red
  pub other_padding : (drawing_of 0 (with_faces [] opened_flat)).padding_face ≡ default_face

pub record Examples : Type 0 where
  pub places : PlaceExamples
  pub boxes : BoxExamples
  pub shown : ShownExamples
  pub opened_world : drawing_of 0 opened_flat ≡ record {
    first = true;
    lines = atoms_line (atom (codes "\n") named.Black named.Cyan ∷ []) ∷ [];
    default_face = default_face;
    padding_face = plain_face named.Blue named.Default;
    status = atoms_line [];
    mode_line = atoms_line (atom (codes "*scratch* 1:1 normal 1/1 - client0") named.Cyan named.Default ∷ []);
    status_face = plain_face named.Cyan named.Default;
    cursor = record { prompt = false; line = 0; column = 0 };
    info = Keep;
  }
  pub drawn_before : (drawing_of 0 (with_own 0 (λ o. record o { drawn = true }) opened_flat)).first ≡ false
  pub nothing_said : atoms_of (status_line first_palette Normal Quiet Commands empty) ≡ []
  pub said : atoms_of (status_line first_palette Insert (Said (codes "hi")) Commands empty) ≡ atom (codes "hi") named.Cyan named.Default ∷ []
  pub refused : atoms_of (status_line first_palette Normal (Refused (codes "no")) Commands empty) ≡ atom (codes "no") named.Black named.Red ∷ []
  pub prompt : atoms_of (status_line first_palette Prompt Quiet Commands (halves (codes "w x") []))
      ≡ atom (codes ":") named.Yellow named.Default ∷ atom (codes "w x") named.Cyan named.Default ∷ atom (codes " ") named.Black named.Cyan ∷ []
  pub empty_prompt : atoms_of (status_line first_palette Prompt Quiet Commands empty) ≡ atom (codes ":") named.Yellow named.Default ∷ atom (codes " ") named.Black named.Cyan ∷ []
  pub prompt_for_a_pattern : atoms_of (status_line first_palette Prompt Quiet (Pattern Split) (halves (codes "a") []))
      ≡ atom (codes "split:") named.Yellow named.Default ∷ atom (codes "a") named.Cyan named.Default ∷ atom (codes " ") named.Black named.Cyan ∷ []
  pub names : map prompt_name (map Pattern (Select ∷ Split ∷ KeepThose ∷ Drop ∷ Search Forward ∷ Reach Forward ∷ Search Backward ∷ Reach Backward ∷ []))
      ≡ codes "select:" ∷ codes "split:" ∷ codes "keep:" ∷ codes "drop:" ∷ codes "search:" ∷ codes "search:" ∷ codes "reverse search:" ∷ codes "reverse search:" ∷ []
  pub cursor_of_a_pattern : cursor_drawn 8 Prompt 0 1 whole 0 (Pattern (Search Backward)) (halves (codes "ab") []) ≡ record { prompt = true; line = 0; column = 17 }
  pub cursor_inside_a_prompt : atoms_of (status_line first_palette Prompt Quiet Commands (halves (codes "w") (codes " x")))
      ≡ atom (codes ":") named.Yellow named.Default ∷ atom (codes "w") named.Cyan named.Default ∷ atom (codes " ") named.Black named.Cyan ∷ atom (codes "x") named.Cyan named.Default ∷ []
  pub cursor_at_its_start : atoms_of (status_line first_palette Prompt Quiet Commands (halves [] (codes "w x")))
      ≡ atom (codes ":") named.Yellow named.Default ∷ atom (codes "w") named.Black named.Cyan ∷ atom (codes " x") named.Cyan named.Default ∷ []
  pub cursor_on_the_last : atoms_of (status_line first_palette Prompt Quiet Commands (halves (codes "w ") (codes "x")))
      ≡ atom (codes ":") named.Yellow named.Default ∷ atom (codes "w ") named.Cyan named.Default ∷ atom (codes "x") named.Black named.Cyan ∷ []
  pub cursor_of_prompt : cursor_drawn 8 Prompt 0 1 whole 0 Commands (halves (codes "w x") []) ≡ record { prompt = true; line = 0; column = 4 }
  pub cursor_before_the_end : cursor_drawn 8 Prompt 0 1 whole 0 Commands (halves (codes "w") (codes " x")) ≡ record { prompt = true; line = 0; column = 2 }
  pub cursor_in_window : cursor_drawn 8 Insert 1 3 (narrow 1 2) 0 Commands empty ≡ record { prompt = false; line = 0; column = 1 }
  pub cursor_behind_numbers : cursor_drawn 8 Insert 1 3 (narrow 1 2) 4 Commands empty ≡ record { prompt = false; line = 0; column = 5 }
  pub mode_of_second : mode_line_text (main_cursor (codes "a\nbc\n") (record { list = only 0 ∷ only 3 ∷ []; main = 1 })) Insert (record { list = only 0 ∷ only 3 ∷ []; main = 1 }) 2
      ≡ codes " 2:2 insert 2/2 - client2"
  pub followed_world : view_of 0 (after_following 0 (with_sels 0 (alone true (only 82)) (holding (codes "----------------------------------------------------------------------------------\n"))))
      ≡ record { top = 0; left = 3; rows = 24; columns = 80 }
  pub mode_of_three : mode_line_text (main_cursor (codes "a\nbc\n") (three (only 0) (only 2) (only 3) 1)) Normal (three (only 0) (only 2) (only 3) 1) 1 ≡ codes " 2:1 normal 2/3 - client1"
