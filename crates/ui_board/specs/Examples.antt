-- The definitions at given boxes.
use Rattle.std.specs.Prelude.{◌≡◌, ℕ, List, [], ◌∷◌, ◌++◌, true, false, Option, Some, None, codes}
use Rattle.kak_faces.specs.Standard.{default_face}
use Rattle.drawings.specs.declared.drawing.Atom.{Atom}
use Rattle.drawings.specs.declared.drawing.DrawnLine.{DrawnLine}
use Rattle.drawings.specs.declared.drawing.Drawing.{Drawing}
use Rattle.drawings.specs.declared.drawing.Info.TheVariants.{Keep}
use Rattle.drawings.specs.declared.refusal.Refusal.TheVariants.{Parse, Method}
use Rattle.ui_board.specs.Screens.{screen_bytes}
use Rattle.ui_board.specs.declared.ui.Kind.TheVariants.{Json, Silent, Screen}
use Rattle.ui_board.specs.Told.{Shown, Drawn, Refused, untold, telling, report_of}
use Rattle.ui_board.specs.Boards.{seat_at, is_free, free_seat, seated, left_at, report_at}

-- a box of JSON lines that was told of two refused lines
abbrev pub twice : Shown
twice = telling (Refused Parse) (telling (Refused Method) (untold Json))

-- characters in the default face
abbrev pub plain_atom : List ℕ → Atom
plain_atom contents = record { contents = contents; face = default_face }

-- a drawing of these lines
abbrev pub drawing_of_lines : List DrawnLine → Drawing
drawing_of_lines lines = record {
  first = false;
  lines = lines;
  default_face = default_face;
  padding_face = default_face;
  status = record { atoms = [] };
  mode_line = record { atoms = [] };
  status_face = default_face;
  cursor = record { prompt = false; line = 0; column = 0 };
  info = Keep;
}

-- two atoms in a line that ends in a newline, a line that was cut before it, and one that was cut whole
abbrev pub three_lines : List DrawnLine
three_lines =
    record { atoms = plain_atom (codes "h") ∷ plain_atom (codes "i\n") ∷ [] }
    ∷ record { atoms = plain_atom (codes "cut") ∷ [] }
    ∷ record { atoms = [] }
    ∷ []

-- a line with a letter that isn't of ASCII
abbrev pub one_line : List DrawnLine
one_line = record { atoms = plain_atom (233 ∷ 10 ∷ []) ∷ [] } ∷ []

-- a screen that was drawn twice, and then told of a refused line
abbrev pub drawn_twice : Shown
drawn_twice = telling (Refused Parse) (telling (Drawn (drawing_of_lines one_line)) (telling (Drawn (drawing_of_lines three_lines)) (untold Screen)))

-- seat 0 has a silent box, seat 1 is free, seat 2 has a box of JSON lines
abbrev pub given_boxes : List (Option Shown)
given_boxes = Some (untold Silent) ∷ None ∷ Some twice ∷ []

-- the table of examples
pub record WorkedExamples : Type 0 where
  -- reports, in the order of telling
  pub json : report_of twice ≡
      codes "{\"error\":{\"code\":-32601,\"message\":\"Method\"},\"id\":null,\"jsonrpc\":\"2.0\"}\n"
      ++ codes "{\"error\":{\"code\":-32700,\"message\":\"Parse\"},\"id\":null,\"jsonrpc\":\"2.0\"}\n"
  pub silent : report_of (telling (Refused Parse) (untold Silent)) ≡ []
  -- screens: each line ends in a newline, and the last drawing is what stands there
  pub screen : screen_bytes three_lines ≡ codes "hi\ncut\n\n"
  pub last_drawing : report_of drawn_twice ≡ 195 ∷ 169 ∷ 10 ∷ []
  pub no_drawing : report_of (telling (Refused Parse) (untold Screen)) ≡ []
  pub no_lines : screen_bytes [] ≡ []
  pub what_was_told : twice.told ≡ Refused Method ∷ Refused Parse ∷ []
  -- seats
  pub free : is_free (seat_at 1 given_boxes) ≡ true
  pub taken : is_free (seat_at 2 given_boxes) ≡ false
  pub no_seat : seat_at 3 given_boxes ≡ None
  pub first_free : free_seat given_boxes ≡ 1
  pub into_the_gap : seated (untold Json) given_boxes ≡ Some (untold Silent) ∷ Some (untold Json) ∷ Some twice ∷ []
  pub none_is_free : free_seat (seated (untold Json) given_boxes) ≡ 3
  pub behind_the_last : seated (untold Silent) (Some twice ∷ []) ≡ Some twice ∷ Some (untold Silent) ∷ []
  pub left : left_at 0 given_boxes ≡ None ∷ None ∷ Some twice ∷ []
  pub report : report_at (seat_at 2 given_boxes) ≡ report_of twice
  pub no_report : report_at (seat_at 1 given_boxes) ≡ []
