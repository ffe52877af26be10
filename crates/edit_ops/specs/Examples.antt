-- Worked examples of edits over several selections, which hold by computation.
use Rattle.std.specs.Prelude.{◌≡◌, [], ◌∷◌, codes}
use Rattle.list_model.specs.Ranges.{only}
use Rattle.edit_ops.specs.declared.kinds.Erase.TheVariants.{Selection, BeforeCursor, AtCursor}
use Rattle.edit_ops.specs.declared.kinds.Put.TheVariants.{Before, After, Over, BeforeCursor as AtTheCursor}
use Rattle.edit_ops.specs.Erasing.{erasures}
use Rattle.edit_ops.specs.Putting.{puts}
use Rattle.edit_ops.specs.Leaving.{edited_text, list_left_by}
use Rattle.edit_ops.specs.Samples.{straight, turned, listed, two_marks, letter_and_rest}
use Rattle.edit_ops.specs.TextExamples.{ReadExamples, OpenExamples, RotateExamples, FillExamples}
use Rattle.edit_ops.specs.CrowdingExamples.{CrowdExamples}
use Rattle.edit_ops.specs.AligningExamples.{AlignExamples}

pub record EraseExamples : Type 0 where
  pub text_of_one_newline : edited_text (codes "\n") (erasures Selection (only 0 ∷ [])) ≡ codes "\n"
  pub its_newline_stays_selected : list_left_by (codes "\n") (erasures Selection (only 0 ∷ [])) 0 ≡ listed (only 0 ∷ []) 0
  pub last_line : edited_text (codes "a\nb\n") (erasures Selection (straight 2 3 ∷ [])) ≡ codes "a\n"
  pub end_means_the_last : list_left_by (codes "a\nb\n") (erasures Selection (straight 2 3 ∷ [])) 0 ≡ listed (only 1 ∷ []) 0
  pub two : edited_text (codes "aXbXc\n") (erasures Selection two_marks) ≡ codes "abc\n"
  pub two_left : list_left_by (codes "aXbXc\n") (erasures Selection two_marks) 1 ≡ listed (only 1 ∷ only 2 ∷ []) 1
  pub over_turned_too : edited_text (codes "abcdefgh\n") (erasures Selection (turned 2 4 ∷ [])) ≡ codes "abfgh\n"
  pub straight_is_left : list_left_by (codes "abcdefgh\n") (erasures Selection (turned 2 4 ∷ [])) 0 ≡ listed (only 2 ∷ []) 0
  pub neighbours_become_one : list_left_by (codes "abc\n") (erasures Selection (only 0 ∷ only 1 ∷ [])) 1 ≡ listed (only 0 ∷ []) 0
  -- the last newline stays, since the one before it is gone already
  pub newlines_of_all_lines : edited_text (codes "a\nb\n") (erasures Selection (only 1 ∷ only 3 ∷ [])) ≡ codes "ab\n"
  pub before_a_cursor : edited_text (codes "abc\n") (erasures BeforeCursor (straight 0 2 ∷ [])) ≡ codes "ac\n"
  pub before_a_turned_cursor : edited_text (codes "abc\n") (erasures BeforeCursor (turned 1 2 ∷ [])) ≡ codes "bc\n"
  pub none_before_the_first : edited_text (codes "abc\n") (erasures BeforeCursor (only 0 ∷ [])) ≡ codes "abc\n"
  pub newline_before_a_cursor : edited_text (codes "a\nb\n") (erasures BeforeCursor (only 2 ∷ [])) ≡ codes "ab\n"
  pub at_a_turned_cursor : edited_text (codes "abc\n") (erasures AtCursor (turned 0 3 ∷ [])) ≡ codes "bc\n"
  pub at_the_last_newline : edited_text (codes "ab\n") (erasures AtCursor (only 2 ∷ [])) ≡ codes "ab\n"

pub record PutExamples : Type 0 where
  pub one_for_each : edited_text (codes "abcdef\n") (puts (codes "abcdef\n") Over ([] ∷ codes "XY" ∷ []) (straight 0 1 ∷ straight 2 3 ∷ [])) ≡ codes "XYef\n"
  -- what was put in at the place of the first went in before it
  pub first_goes_behind : list_left_by (codes "abcdef\n") (puts (codes "abcdef\n") Over ([] ∷ codes "XY" ∷ []) (straight 0 1 ∷ straight 2 3 ∷ [])) 0 ≡ listed (straight 0 1 ∷ only 2 ∷ []) 1
  pub last_newline_by_newline : edited_text (codes "ab\n") (puts (codes "ab\n") Over (codes "ab\n" ∷ []) (straight 0 2 ∷ [])) ≡ codes "ab\n"
  pub and_counts_as_put_in : list_left_by (codes "ab\n") (puts (codes "ab\n") Over (codes "ab\n" ∷ []) (straight 0 2 ∷ [])) 0 ≡ listed (straight 0 2 ∷ []) 0
  pub newline_by_newline_alone : list_left_by (codes "ab\n") (puts (codes "ab\n") Over (codes "\n" ∷ []) (only 2 ∷ [])) 0 ≡ listed (only 2 ∷ []) 0
  pub no_strings : list_left_by (codes "ab\n") (puts (codes "ab\n") After [] (only 0 ∷ [])) 0 ≡ listed (only 1 ∷ []) 0
  pub empty_string : edited_text (codes "ab\n") (puts (codes "ab\n") Before ([] ∷ []) (only 0 ∷ [])) ≡ codes "ab\n"
  pub behind_the_last : edited_text (codes "ab\n") (puts (codes "ab\n") After (codes "a" ∷ []) (only 2 ∷ [])) ≡ codes "ab\na\n"
  pub added_newline_counts : list_left_by (codes "ab\n") (puts (codes "ab\n") After (codes "a" ∷ []) (only 2 ∷ [])) 0 ≡ listed (straight 3 4 ∷ []) 0
  pub over_the_text : edited_text (codes "ab\n") (puts (codes "ab\n") Over (codes "xxx" ∷ []) (straight 0 2 ∷ [])) ≡ codes "xxx\n"
  pub without_the_kept_newline : list_left_by (codes "ab\n") (puts (codes "ab\n") Over (codes "xxx" ∷ []) (straight 0 2 ∷ [])) 0 ≡ listed (straight 0 2 ∷ []) 0
  pub over_the_last_line : edited_text (codes "a\nb\n") (puts (codes "a\nb\n") Over (codes "zz" ∷ []) (straight 2 3 ∷ [])) ≡ codes "a\nzz\n"
  pub with_the_added_newline : list_left_by (codes "a\nb\n") (puts (codes "a\nb\n") Over (codes "zz" ∷ []) (straight 2 3 ∷ [])) 0 ≡ listed (straight 2 4 ∷ []) 0
  pub before_a_selection : edited_text (codes "abc\n") (puts (codes "abc\n") Before (codes "x" ∷ []) (straight 1 2 ∷ [])) ≡ codes "axbc\n"
  pub behind_a_selection : edited_text (codes "abc\n") (puts (codes "abc\n") After (codes "x" ∷ []) (straight 0 1 ∷ [])) ≡ codes "abxc\n"
  pub before_its_cursor : edited_text (codes "abc\n") (puts (codes "abc\n") AtTheCursor (codes "Z\n" ∷ []) (straight 0 1 ∷ [])) ≡ codes "aZ\nbc\n"
  pub line_before_its_lines : edited_text (codes "ab\ncd\n") (puts (codes "ab\ncd\n") Before (codes "x\n" ∷ []) (straight 4 5 ∷ [])) ≡ codes "ab\nx\ncd\n"
  pub line_behind_its_lines : edited_text (codes "ab\ncd\ne\n") (puts (codes "ab\ncd\ne\n") After (codes "x\n" ∷ []) (straight 1 4 ∷ [])) ≡ codes "ab\ncd\nx\ne\n"
  pub the_line_is_left : list_left_by (codes "ab\ncd\ne\n") (puts (codes "ab\ncd\ne\n") After (codes "x\n" ∷ []) (straight 1 4 ∷ [])) 0 ≡ listed (straight 6 7 ∷ []) 0
  -- one string is a line, so all of them go to lines; at the end it gets a newline
  pub one_line_makes_all_lines : edited_text (codes "ab\n") (puts (codes "ab\n") After (codes "x" ∷ codes "y\n" ∷ []) (only 1 ∷ [])) ≡ codes "ab\nx\n"
  pub in_the_order_of_the_list : edited_text (codes "ab\nc\n") (puts (codes "ab\nc\n") Before (codes "x\n" ∷ codes "y" ∷ []) (only 0 ∷ only 1 ∷ [])) ≡ codes "x\nyab\nc\n"
  pub last_string_beyond : edited_text (codes "abc\n") (puts (codes "abc\n") Before (codes "x" ∷ codes "yz" ∷ []) (only 0 ∷ only 1 ∷ only 2 ∷ [])) ≡ codes "xayzbyzc\n"
  -- the last line goes, so the first place means the last character, and what then goes in at the end leaves it there
  pub cut_on_the_way : list_left_by (codes "a\nbc\n") (puts (codes "a\nbc\n") Over ([] ∷ codes "x" ∷ []) letter_and_rest) 0 ≡ listed (only 1 ∷ straight 2 3 ∷ []) 0

-- all of them
pub record WorkedExamples : Type 0 where
  pub erasing : EraseExamples
  pub putting : PutExamples
  pub reading : ReadExamples
  pub opening : OpenExamples
  pub rotating : RotateExamples
  pub filling : FillExamples
  pub crowding : CrowdExamples
  pub aligning : AlignExamples
