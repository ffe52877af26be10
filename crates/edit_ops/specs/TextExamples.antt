-- Worked examples of the texts of selections, and of edits that open lines, change texts round and fill selections.
use Rattle.std.specs.Prelude.{◌≡◌, [], ◌∷◌, codes}
use Rattle.list_model.specs.Ranges.{only}
use Rattle.directions.specs.declared.direction.Direction.TheVariants.{Forward, Backward}
use Rattle.edit_ops.specs.Reading.{texts_of}
use Rattle.edit_ops.specs.Opening.{opens}
use Rattle.edit_ops.specs.Rotating.{rotations}
use Rattle.edit_ops.specs.Filling.{fillings}
use Rattle.edit_ops.specs.Leaving.{edited_text, list_left_by}
use Rattle.edit_ops.specs.Samples.{straight, turned, listed, three_words}

pub record ReadExamples : Type 0 where
  pub first_to_last : texts_of (codes "a bc def\n") three_words ≡ codes "a" ∷ codes "bc" ∷ codes "def" ∷ []
  pub over_lines : texts_of (codes "ab\ncd\n") (turned 1 3 ∷ []) ≡ codes "b\nc" ∷ []
  pub last_newline_too : texts_of (codes "ab\n") (straight 0 2 ∷ []) ≡ codes "ab\n" ∷ []

pub record OpenExamples : Type 0 where
  pub below_the_last_line : edited_text (codes "ab\n") (opens (codes "ab\n") Forward (only 0 ∷ [])) ≡ codes "ab\n\n"
  pub its_newline_is_left : list_left_by (codes "ab\n") (opens (codes "ab\n") Forward (only 0 ∷ [])) 0 ≡ listed (only 3 ∷ []) 0
  pub both_above_one_line : edited_text (codes "ab\n") (opens (codes "ab\n") Backward (only 0 ∷ only 1 ∷ [])) ≡ codes "\n\nab\n"
  pub each_has_its_line : list_left_by (codes "ab\n") (opens (codes "ab\n") Backward (only 0 ∷ only 1 ∷ [])) 1 ≡ listed (only 0 ∷ only 1 ∷ []) 1
  pub last_line_selected : list_left_by (codes "a\nb\n") (opens (codes "a\nb\n") Forward (straight 2 3 ∷ [])) 0 ≡ listed (only 4 ∷ []) 0
  pub below_two_lines : edited_text (codes "a\nb\n") (opens (codes "a\nb\n") Forward (only 0 ∷ only 2 ∷ [])) ≡ codes "a\n\nb\n\n"
  pub both_are_left : list_left_by (codes "a\nb\n") (opens (codes "a\nb\n") Forward (only 0 ∷ only 2 ∷ [])) 0 ≡ listed (only 2 ∷ only 5 ∷ []) 0
  pub above_in_the_middle : edited_text (codes "a\nb\nc\n") (opens (codes "a\nb\nc\n") Backward (only 2 ∷ [])) ≡ codes "a\n\nb\nc\n"
  -- the line of the last character counts below, and that of the first one above
  pub below_its_last_line : edited_text (codes "a\nb\nc\n") (opens (codes "a\nb\nc\n") Forward (turned 0 2 ∷ [])) ≡ codes "a\nb\n\nc\n"
  pub above_its_first_line : edited_text (codes "a\nb\nc\n") (opens (codes "a\nb\nc\n") Backward (straight 2 5 ∷ [])) ≡ codes "a\n\nb\nc\n"

pub record RotateExamples : Type 0 where
  pub two : edited_text (codes "abc\n") (rotations (codes "abc\n") Forward (only 0 ∷ only 2 ∷ [])) ≡ codes "cba\n"
  pub two_left : list_left_by (codes "abc\n") (rotations (codes "abc\n") Forward (only 0 ∷ only 2 ∷ [])) 1 ≡ listed (only 0 ∷ only 2 ∷ []) 1
  pub forward : edited_text (codes "a bc def\n") (rotations (codes "a bc def\n") Forward three_words) ≡ codes "def a bc\n"
  pub forward_left : list_left_by (codes "a bc def\n") (rotations (codes "a bc def\n") Forward three_words) 0 ≡ listed (straight 0 2 ∷ only 4 ∷ straight 6 7 ∷ []) 0
  pub backward : edited_text (codes "a bc def\n") (rotations (codes "a bc def\n") Backward three_words) ≡ codes "bc def a\n"
  pub backward_left : list_left_by (codes "a bc def\n") (rotations (codes "a bc def\n") Backward three_words) 2 ≡ listed (straight 0 1 ∷ straight 3 5 ∷ only 7 ∷ []) 2
  pub one_alone : rotations (codes "abc\n") Backward (turned 0 1 ∷ []) ≡ record { from = 0; «to» = 2; put = codes "ab" } ∷ []
  pub straight_is_left : list_left_by (codes "abc\n") (rotations (codes "abc\n") Forward (turned 0 1 ∷ [])) 0 ≡ listed (straight 0 1 ∷ []) 0

pub record FillExamples : Type 0 where
  pub over_the_text : edited_text (codes "ab\n") (fillings 120 (straight 0 2 ∷ [])) ≡ codes "xxx\n"
  pub without_the_kept_newline : list_left_by (codes "ab\n") (fillings 120 (straight 0 2 ∷ [])) 0 ≡ listed (straight 0 2 ∷ []) 0
  pub over_the_last_line : edited_text (codes "a\nb\n") (fillings 122 (straight 2 3 ∷ [])) ≡ codes "a\nzz\n"
  pub with_the_added_newline : list_left_by (codes "a\nb\n") (fillings 122 (straight 2 3 ∷ [])) 0 ≡ listed (straight 2 4 ∷ []) 0
  pub newlines_too : edited_text (codes "ab\ncd\n") (fillings 120 (turned 1 3 ∷ [])) ≡ codes "axxxd\n"
  pub each_by_its_length : edited_text (codes "a bc def\n") (fillings 120 three_words) ≡ codes "x xx xxx\n"
