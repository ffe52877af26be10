-- Worked examples of the places that have a name, which hold by computation.
use Rattle.std.specs.Prelude.{◌≡◌, ℕ, Some, codes}
use Rattle.motion_keys.specs.declared.landmarks.Place.TheVariants.{First, LastLine, Last, LineStart, LineEnd, NonBlank, WindowTop, WindowMiddle, WindowBottom, Line}
use Rattle.window_view.specs.View.{View}
use Rattle.motion_keys.specs.declared.landmarks.LinePart.TheVariants.{ToStart, ToEnd}
use Rattle.list_model.specs.Ranges.{only}
use Rattle.selection_set.specs.Listing.{range_between}
use Rattle.motion_keys.specs.Examples.{turned_from}
use Rattle.motion_keys.specs.Landmarks.{landmark, line_part}

-- a window by its first line and how many lines it has
abbrev pub view : ℕ → ℕ → View
view top rows = record { top = top; left = 0; rows = rows; columns = 80 }

pub record LandmarkExamples : Type 0 where
  pub first : landmark (codes "ab\ncd\n") 4 (view 0 9) First ≡ Some 0
  pub last_line : landmark (codes "ab\ncd\n") 0 (view 0 9) LastLine ≡ Some 3
  pub last : landmark (codes "ab\ncd\n") 0 (view 0 9) Last ≡ Some 5
  pub line_start : landmark (codes "ab\ncd\n") 4 (view 0 9) LineStart ≡ Some 3
  pub line_end : landmark (codes "ab\ncd\n") 3 (view 0 9) LineEnd ≡ Some 4
  pub line_end_of_one : landmark (codes "ab\nc\n") 4 (view 0 9) LineEnd ≡ Some 3
  pub end_of_an_empty_line : landmark (codes "ab\n\n") 3 (view 0 9) LineEnd ≡ Some 3
  pub window_top : landmark (codes "a\nb\nc\nd\n") 0 (view 1 2) WindowTop ≡ Some 2
  pub window_middle : landmark (codes "a\nb\nc\nd\n") 0 (view 1 2) WindowMiddle ≡ Some 4
  pub window_bottom : landmark (codes "a\nb\nc\nd\n") 0 (view 1 2) WindowBottom ≡ Some 4
  pub window_below_the_text : landmark (codes "a\nb\nc\nd\n") 0 (view 2 9) WindowMiddle ≡ Some 6
  pub of_a_window_of_one_row : landmark (codes "a\nb\nc\n") 0 (view 1 1) WindowBottom ≡ Some 2
  pub a_line : landmark (codes "a\nb\n") 0 (view 0 9) (Line 1) ≡ Some 2
  pub a_line_beyond_the_last : landmark (codes "a\nb\n") 0 (view 0 9) (Line 9) ≡ Some 2

-- the first character of a line that is no blank
pub record NonBlankExamples : Type 0 where
  pub behind_blanks : landmark (codes " \tab\n") 3 (view 0 9) NonBlank ≡ Some 2
  pub without_blanks : landmark (codes "a\nbc\n") 3 (view 0 9) NonBlank ≡ Some 2
  pub blanks_alone : landmark (codes "a\n  \n") 2 (view 0 9) NonBlank ≡ Some 4
  pub an_empty_line : landmark (codes "a\n\n b\n") 2 (view 0 9) NonBlank ≡ Some 2

-- parts of the cursor's line
pub record LinePartExamples : Type 0 where
  pub to_the_start : line_part (codes "ab\ncde\n") (only 5) ToStart ≡ range_between 5 3
  pub at_the_start : line_part (codes "ab\ncde\n") (only 3) ToStart ≡ range_between 3 3
  pub from_the_newline_to_the_start : line_part (codes "ab\ncde\n") (only 6) ToStart ≡ range_between 6 3
  pub from_the_cursor_to_the_start : line_part (codes "ab\ncde\n") (turned_from 4 6) ToStart ≡ range_between 4 3
  pub to_the_end : line_part (codes "ab\ncde\n") (only 3) ToEnd ≡ range_between 3 5
  pub at_the_end : line_part (codes "ab\ncde\n") (only 5) ToEnd ≡ range_between 5 5
  pub from_the_newline_to_the_end : line_part (codes "ab\ncde\n") (only 6) ToEnd ≡ range_between 6 5
  pub of_an_empty_line : line_part (codes "ab\n\n") (only 3) ToEnd ≡ range_between 3 3
  pub from_the_cursor_to_the_end : line_part (codes "ab\ncde\n") (turned_from 0 5) ToEnd ≡ range_between 0 1
