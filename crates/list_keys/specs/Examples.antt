-- Worked examples of the rows, which hold by computation.
use Rattle.std.specs.Prelude.{◌≡◌, ℕ, true, false, None, Some, [], ◌∷◌, List, codes}
use Rattle.list_model.specs.Ranges.{Range, Selected, only}
use Rattle.directions.specs.declared.direction.Direction.TheVariants.{Forward, Backward}
use Rattle.list_keys.specs.Cuts.{whole_lines_in, trimmed_range, parts_of, ends_of}
use Rattle.list_keys.specs.Copies.{copy_of}
use Rattle.list_keys.specs.Rows.{left_of_each, parts_of_each, copied_each, main_alone, without_main, main_turned, whole_text}

-- a straight selection, a turned one, and one with a target
abbrev pub straight : ℕ → ℕ → Range
straight a b = record { low = a; high = b; turned = false; target = None }

abbrev pub turned : ℕ → ℕ → Range
turned a b = record { low = a; high = b; turned = true; target = None }

abbrev pub aimed : ℕ → ℕ → Range
aimed a b = record { low = a; high = b; turned = true; target = Some 7 }

-- a list with its main selection
abbrev pub listed : List Range → ℕ → Selected
listed list main = record { list = list; main = main }

-- `<a-x>`
pub record WholeLineExamples : Type 0 where
  pub inner_lines : whole_lines_in (codes "ab\ncd\nef\n") (straight 1 6) ≡ Some (straight 3 5)
  pub whole_lines_stay : whole_lines_in (codes "ab\ncd\n") (straight 0 2) ≡ Some (straight 0 2)
  pub target_is_lost : whole_lines_in (codes "ab\ncd\n") (aimed 3 5) ≡ Some (turned 3 5)
  pub newline_alone : whole_lines_in (codes "ab\n\nc\n") (straight 1 3) ≡ Some (straight 3 3)
  pub line_without_its_newline : whole_lines_in (codes "ab\ncd\n") (straight 3 4) ≡ None
  pub line_without_its_start : whole_lines_in (codes "ab\ncd\n") (straight 1 2) ≡ None
  pub ends_of_two_lines : whole_lines_in (codes "ab\ncd\n") (straight 1 4) ≡ None
  pub some_are_dropped : left_of_each (whole_lines_in (codes "ab\ncd\nef\n")) (listed (only 0 ∷ turned 2 5 ∷ straight 6 8 ∷ []) 1) ≡ Some (listed (turned 3 5 ∷ straight 6 8 ∷ []) 0)
  pub main_is_dropped : left_of_each (whole_lines_in (codes "ab\ncd\nef\n")) (listed (only 0 ∷ turned 2 5 ∷ straight 6 8 ∷ []) 0) ≡ Some (listed (turned 3 5 ∷ straight 6 8 ∷ []) 1)
  pub nothing_is_left : left_of_each (whole_lines_in (codes "ab\ncd\n")) (listed (only 0 ∷ only 3 ∷ []) 0) ≡ None

-- `_`
pub record TrimExamples : Type 0 where
  pub blanks_at_both_ends : trimmed_range (codes " \ta b \n") (turned 0 6) ≡ Some (turned 2 4)
  pub newlines_at_both_ends : trimmed_range (codes "a\n b\n\nc\n") (straight 1 5) ≡ Some (straight 3 3)
  pub target_is_lost : trimmed_range (codes "ab\n") (aimed 0 1) ≡ Some (turned 0 1)
  pub blanks_alone : trimmed_range (codes "a \n b\n") (straight 1 3) ≡ None
  pub others_are_left : left_of_each (trimmed_range (codes "a \nb\n")) (listed (straight 0 1 ∷ only 2 ∷ straight 3 4 ∷ []) 1) ≡ Some (listed (only 0 ∷ only 3 ∷ []) 1)

-- `<a-s>` and `<a-S>`
pub record PartExamples : Type 0 where
  pub over_lines : parts_of (codes "ab\n\ncd\n") (aimed 1 5) ≡ turned 1 2 ∷ turned 3 3 ∷ turned 4 5 ∷ []
  pub inside_a_line : parts_of (codes "abc\n") (aimed 0 1) ≡ turned 0 1 ∷ []
  pub up_to_a_newline : parts_of (codes "ab\ncd\n") (straight 0 2) ≡ straight 0 2 ∷ []
  pub last_part_is_main : parts_of_each (parts_of (codes "ab\ncd\n")) (listed (straight 0 3 ∷ only 4 ∷ []) 0) ≡ listed (straight 0 2 ∷ only 3 ∷ only 4 ∷ []) 2
  pub both_ends : parts_of_each ends_of (listed (aimed 0 2 ∷ straight 4 5 ∷ []) 0) ≡ listed (only 0 ∷ only 2 ∷ only 4 ∷ only 5 ∷ []) 3
  pub one_character_is_one_end : parts_of_each ends_of (listed (straight 0 2 ∷ aimed 4 4 ∷ []) 0) ≡ listed (only 0 ∷ only 2 ∷ only 4 ∷ []) 2

-- `C` and `<a-C>`
pub record CopyExamples : Type 0 where
  pub on_the_next_line : copy_of Forward (codes "abc\nabc\n") (aimed 0 1) ≡ Some (turned 4 5)
  pub onto_a_newline : copy_of Forward (codes "ab\nc\n") (only 1) ≡ Some (only 4)
  pub over_a_short_line : copy_of Forward (codes "abc\n\nabc\n") (straight 1 2) ≡ Some (straight 6 7)
  pub no_place_below : copy_of Forward (codes "abc\na\n") (only 2) ≡ None
  pub behind_its_own_lines : copy_of Forward (codes "ab\nab\nab\nab\n") (straight 1 3) ≡ Some (straight 7 9)
  pub no_place_behind_its_own_lines : copy_of Forward (codes "ab\nab\nab\n") (straight 1 3) ≡ None
  pub on_the_line_before : copy_of Backward (codes "abc\nabc\n") (straight 5 6) ≡ Some (straight 1 2)
  pub above_a_short_line : copy_of Backward (codes "abc\n\nabc\n") (only 6) ≡ Some (only 1)
  pub no_place_above : copy_of Backward (codes "a\nabc\n") (only 4) ≡ None
  pub copies_are_settled : copied_each (copy_of Forward (codes "abc\nabc\nabc\n")) (listed (turned 0 1 ∷ straight 4 6 ∷ []) 0) ≡ listed (turned 0 1 ∷ straight 4 6 ∷ straight 8 10 ∷ []) 1
  pub copy_is_main : copied_each (copy_of Forward (codes "ab\nc\n")) (listed (only 1 ∷ []) 0) ≡ listed (only 1 ∷ only 4 ∷ []) 1
  pub main_without_a_copy_stays_main : copied_each (copy_of Forward (codes "ab\nc\n")) (listed (only 1 ∷ aimed 2 2 ∷ []) 1) ≡ listed (only 1 ∷ aimed 2 2 ∷ only 4 ∷ []) 1
  pub copies_above : copied_each (copy_of Backward (codes "ab\ncd\n")) (listed (aimed 3 4 ∷ []) 0) ≡ listed (turned 0 1 ∷ aimed 3 4 ∷ []) 0

-- `,` and `<a-,>`, `(` and `)`, `%`
pub record MainExamples : Type 0 where
  pub main_alone : main_alone (listed (only 0 ∷ aimed 2 3 ∷ only 5 ∷ []) 1) ≡ listed (aimed 2 3 ∷ []) 0
  pub one_before_is_main : without_main (listed (only 0 ∷ aimed 2 3 ∷ only 5 ∷ []) 2) ≡ Some (listed (only 0 ∷ aimed 2 3 ∷ []) 1)
  pub last_is_main : without_main (listed (only 0 ∷ aimed 2 3 ∷ only 5 ∷ []) 0) ≡ Some (listed (aimed 2 3 ∷ only 5 ∷ []) 1)
  pub only_one_stays : without_main (listed (only 0 ∷ []) 0) ≡ None
  pub on : main_turned Forward (listed (only 0 ∷ only 2 ∷ []) 0) ≡ listed (only 0 ∷ only 2 ∷ []) 1
  pub on_round_the_end : main_turned Forward (listed (only 0 ∷ only 2 ∷ []) 1) ≡ listed (only 0 ∷ only 2 ∷ []) 0
  pub back : main_turned Backward (listed (only 0 ∷ only 2 ∷ []) 1) ≡ listed (only 0 ∷ only 2 ∷ []) 0
  pub back_round_the_end : main_turned Backward (listed (only 0 ∷ only 2 ∷ only 4 ∷ []) 0) ≡ listed (only 0 ∷ only 2 ∷ only 4 ∷ []) 2
  pub all : whole_text (codes "ab\nc\n") ≡ listed (straight 0 4 ∷ []) 0
