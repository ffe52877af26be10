-- Worked examples of the definitions, which hold by computation.
use Rattle.std.specs.Prelude.{◌≡◌, ℕ, true, false, [], ◌∷◌, codes}
use Rattle.text_model.specs.declared.coords.Coord.{Coord}
use Rattle.text_model.specs.Coords.{reached, further, is_at_most}
use Rattle.text_model.specs.Texts.{lines_of, joined, nth_line, offset, coord_at, end_coord, last_place}
use Rattle.text_model.specs.Changes.{inserted, erased, Insertion, Erasure, changed, inverse, all_changed, insertion, erasure, replacement, Move, move_of}
use Rattle.text_model.specs.Mapping.{moved, shifted}

-- the coordinate of a line and a column
abbrev pub coord : ℕ → ℕ → Coord
coord l c = record { line = l; column = c }

-- lines, offsets and coordinates
pub record TextExamples : Type 0 where
  pub two_lines : lines_of (codes "ab\ncd\n") ≡ codes "ab\n" ∷ codes "cd\n" ∷ []
  pub empty_lines : lines_of (codes "\n\n") ≡ codes "\n" ∷ codes "\n" ∷ []
  pub one_after_another : joined (codes "ab\n" ∷ codes "cd\n" ∷ []) ≡ codes "ab\ncd\n"
  pub second_line : nth_line (codes "ab\ncd\n") 1 ≡ codes "cd\n"
  pub no_third_line : nth_line (codes "ab\ncd\n") 2 ≡ []
  pub offset_on_second_line : offset (codes "ab\ncd\n") (coord 1 1) ≡ 4
  pub coordinate_of_it : coord_at (codes "ab\ncd\n") 4 ≡ coord 1 1
  pub newline_is_on_its_line : coord_at (codes "ab\ncd\n") 2 ≡ coord 0 2
  pub line_begins_behind_it : coord_at (codes "ab\ncd\n") 3 ≡ coord 1 0
  pub end_offset : offset (codes "ab\ncd\n") (coord 2 0) ≡ 6
  pub end_coordinate : coord_at (codes "ab\ncd\n") 6 ≡ end_coord (codes "ab\ncd\n")
  pub last_offset : last_place (codes "ab\ncd\n") ≡ 5
  pub earlier_line_first : is_at_most (coord 0 9) (coord 1 0) ≡ true
  pub later_line_after : is_at_most (coord 1 0) (coord 0 9) ≡ false
  pub same_line_by_column : is_at_most (coord 1 2) (coord 1 2) ≡ true
  pub further_on_the_line : further (coord 3 4) (coord 0 2) ≡ coord 3 6
  pub further_on_later_lines : further (coord 3 4) (coord 2 1) ≡ coord 5 1
  pub over_characters : reached (coord 3 4) (codes "x\nyz") ≡ coord 4 2

-- insertions, erasures and replacements
pub record ChangeExamples : Type 0 where
  pub insert_inside : inserted (codes "ab\n") 1 (codes "x") ≡ codes "axb\n"
  pub insert_at_end : inserted (codes "ab\n") 3 (codes "x") ≡ codes "ab\nx\n"
  pub insert_line_at_end : inserted (codes "ab\n") 3 (codes "x\n") ≡ codes "ab\nx\n"
  pub insert_nothing : inserted (codes "ab\n") 3 [] ≡ codes "ab\n"
  pub insert_nothing_is_no_change : insertion (codes "ab\n") 3 [] ≡ []
  pub erase_inside : erased (codes "abcd\n") 1 3 ≡ codes "ad\n"
  pub erase_joins_lines : erased (codes "a\nb\n") 1 2 ≡ codes "ab\n"
  pub erase_keeps_last_newline : erased (codes "ab\n") 1 3 ≡ codes "a\n"
  pub erase_all : erased (codes "ab\n") 0 3 ≡ codes "\n"
  pub erase_all_lines : erased (codes "a\nb\n") 0 4 ≡ codes "\n"
  pub erase_last_line : erased (codes "a\nb\n") 2 4 ≡ codes "a\n"
  pub erase_only_newline : erasure (codes "\n") 0 1 ≡ []
  pub erase_last_newline : erasure (codes "ab\n") 2 3 ≡ []
  pub erase_empty : erasure (codes "ab\n") 1 1 ≡ []
  pub replace_inside : replacement (codes "abc\n") 1 2 (codes "xy") ≡ Erasure 1 2 ∷ Insertion 1 (codes "xy") ∷ []
  pub replace_by_nothing : replacement (codes "abc\n") 1 2 [] ≡ Erasure 1 2 ∷ []
  pub replace_nothing : replacement (codes "abc\n") 1 1 (codes "x") ≡ Insertion 1 (codes "x") ∷ []
  pub replace_to_end : replacement (codes "ab\n") 1 3 (codes "x\n") ≡ Erasure 1 2 ∷ Insertion 1 (codes "x") ∷ []
  pub replace_newline_by_newline : replacement (codes "ab\n") 2 3 (codes "\n") ≡ []
  pub replace_last_line : replacement (codes "a\nb\n") 2 4 (codes "x") ≡ Erasure 2 4 ∷ Insertion 2 (codes "x\n") ∷ []
  pub replaced_last_line : all_changed (codes "a\nb\n") (replacement (codes "a\nb\n") 2 4 (codes "x")) ≡ codes "a\nx\n"
  pub undo_insertion : inverse (codes "ab\n") (Insertion 1 (codes "xy")) ≡ Erasure 1 3
  pub undo_erasure : inverse (codes "abcd\n") (Erasure 1 3) ≡ Insertion 1 (codes "bc")
  pub undone : changed (changed (codes "abcd\n") (Erasure 1 3)) (Insertion 1 (codes "bc")) ≡ codes "abcd\n"

-- two characters put in at 3 of a text of eight
abbrev pub two_put_in : Move
two_put_in = move_of (codes "abcdefg\n") (Insertion 3 (codes "xy"))

-- the last line of a text of two taken out
abbrev pub line_taken : Move
line_taken = move_of (codes "a\nb\n") (Erasure 2 4)

-- the third to the fifth character of a text taken out
abbrev pub three_taken : Move
three_taken = move_of (codes "abcdefgh\n") (Erasure 2 5)

-- where places go
pub record MappingExamples : Type 0 where
  pub before_insertion : shifted two_put_in 2 ≡ 2
  pub at_insertion : shifted two_put_in 3 ≡ 5
  pub last_behind_insertion : shifted two_put_in 7 ≡ 9
  pub before_erasure : shifted three_taken 1 ≡ 1
  pub at_erasure : shifted three_taken 2 ≡ 2
  pub in_erasure : shifted three_taken 4 ≡ 2
  pub at_its_end : shifted three_taken 5 ≡ 2
  pub behind_erasure : shifted three_taken 6 ≡ 3
  pub without_the_cut : moved line_taken 3 ≡ 2
  pub cut_to_the_last : shifted line_taken 3 ≡ 1

-- all of them
pub record WorkedExamples : Type 0 where
  pub texts : TextExamples
  pub changes : ChangeExamples
  pub mapping : MappingExamples
