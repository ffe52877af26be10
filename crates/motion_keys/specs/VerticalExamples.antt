-- Worked examples of vertical moves, which hold by computation.
use Rattle.std.specs.Prelude.{◌≡◌, ℕ, ℤ, pos, neg_ℤ, None, Some, ◌∷◌, ◌++◌, codes}
use Rattle.list_model.specs.Ranges.{only}
use Rattle.motion_keys.specs.Examples.{turned_from}
use Rattle.motion_keys.specs.Motions.{line_by, vertical, aimed_at}

-- so many lines down, and up
abbrev pub down : ℕ → ℤ
down n = pos n

abbrev pub up_lines : ℕ → ℤ
up_lines n = neg_ℤ (pos n)

pub record LineExamples : Type 0 where
  pub below : line_by 9 3 (down 1) ≡ Some 4
  pub above : line_by 9 3 (up_lines 1) ≡ Some 2
  pub some_below : line_by 9 3 (down 4) ≡ Some 7
  pub some_above : line_by 9 3 (up_lines 3) ≡ Some 0
  pub at_most_the_last : line_by 9 3 (down 6) ≡ Some 8
  pub at_most_the_first : line_by 9 3 (up_lines 4) ≡ Some 0
  pub the_last_but_one : line_by 9 7 (down 2) ≡ Some 8
  pub none_below_the_last : line_by 9 8 (down 1) ≡ None
  pub none_above_the_first : line_by 9 0 (up_lines 1) ≡ None
  pub the_line_itself : line_by 9 8 (down 0) ≡ Some 8

pub record VerticalExamples : Type 0 where
  pub one_down : vertical (codes "ab\ncd\n") (only 1) (down 1) 8 ≡ Some (aimed_at 1 4)
  pub one_up : vertical (codes "ab\ncd\n") (only 4) (up_lines 1) 8 ≡ Some (aimed_at 1 1)
  pub from_the_cursor : vertical (codes "abcd\nabcd\n") (turned_from 1 3) (down 1) 8 ≡ Some (aimed_at 1 6)
  pub on_its_own_line : vertical (codes "ab\ncd\n") (turned_from 1 2) (down 0) 8 ≡ Some (aimed_at 1 1)
  pub not_below_the_last_line : vertical (codes "ab\ncd\n") (only 4) (down 1) 8 ≡ None
  pub not_above_the_first_line : vertical (codes "ab\ncd\n") (only 1) (up_lines 1) 8 ≡ None
  -- the newline is a character with one cell; beyond it, the last character before it is taken
  pub onto_a_newline : vertical (codes "abc\nab\n") (only 2) (down 1) 8 ≡ Some (aimed_at 2 6)
  pub beyond_the_line : vertical (codes "abcd\nab\n") (only 3) (down 1) 8 ≡ Some (aimed_at 3 6)
  pub onto_an_empty_line : vertical (codes "abc\n\n") (only 2) (down 1) 8 ≡ Some (aimed_at 2 4)
  -- the target is kept over a short line
  pub target_is_kept : vertical (codes "abc\n\nabc\n") (aimed_at 2 4) (down 1) 8 ≡ Some (aimed_at 2 7)
  pub over_a_short_line : vertical (codes "abc\n\nabc\n") (only 2) (down 2) 8 ≡ Some (aimed_at 2 7)
  pub several_down : vertical (codes "a\nb\nc\nd\n") (only 0) (down 2) 8 ≡ Some (aimed_at 0 4)
  pub several_up : vertical (codes "a\nb\nc\nd\n") (only 6) (up_lines 2) 8 ≡ Some (aimed_at 0 2)
  pub at_most_to_the_last_line : vertical (codes "a\nb\nc\nd\n") (only 0) (down 9) 8 ≡ Some (aimed_at 0 6)
  pub at_most_to_the_first_line : vertical (codes "a\nb\nc\nd\n") (only 6) (up_lines 9) 8 ≡ Some (aimed_at 0 0)

-- characters with other cells than one, with a tab stop at each eighth column; 0x6F22 has two cells, 0x0301 has none
pub record CellExamples : Type 0 where
  pub behind_a_tab : vertical (codes "a\tb\nabcdefghij\n") (only 2) (down 1) 8 ≡ Some (aimed_at 8 12)
  pub from_a_tab : vertical (codes "a\tb\nabcdefghij\n") (only 1) (down 1) 8 ≡ Some (aimed_at 1 5)
  pub into_a_tab : vertical (codes "abcdef\na\tb\n") (only 3) (down 1) 8 ≡ Some (aimed_at 3 8)
  pub past_a_tab : vertical (codes "abcdefghi\n\tb\n") (only 8) (down 1) 8 ≡ Some (aimed_at 8 11)
  pub a_tab_stop_of_four : vertical (codes "abcdefghi\n\tb\n") (only 4) (down 1) 4 ≡ Some (aimed_at 4 11)
  pub into_a_wide_character : vertical (codes "ab\n" ++ (0x6F22 ∷ codes "b\n")) (only 1) (down 1) 8 ≡ Some (aimed_at 1 3)
  pub past_a_wide_character : vertical (codes "abc\n" ++ (0x6F22 ∷ codes "b\n")) (only 2) (down 1) 8 ≡ Some (aimed_at 2 5)
  pub behind_a_wide_character : vertical (0x6F22 ∷ codes "b\nabc\n") (only 1) (down 1) 8 ≡ Some (aimed_at 2 5)
  pub beyond_a_wide_character : vertical (codes "abcd\n" ++ (0x6F22 ∷ codes "\n")) (only 3) (down 1) 8 ≡ Some (aimed_at 3 5)
  pub over_a_character_without_cells : vertical (codes "ab\ne" ++ (0x0301 ∷ codes "b\n")) (only 1) (down 1) 8 ≡ Some (aimed_at 1 5)
  pub beyond_a_character_without_cells : vertical (codes "abcd\ne" ++ (0x0301 ∷ codes "\n")) (only 3) (down 1) 8 ≡ Some (aimed_at 3 6)
