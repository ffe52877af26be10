-- Worked examples of aligning, which hold by computation.
use Rattle.std.specs.Prelude.{◌≡◌, ℕ, Bool, true, false, None, [], ◌∷◌, codes}
use Rattle.list_model.specs.Ranges.{Range, only}
use Rattle.edit_ops.specs.Crowding.{put_together}
use Rattle.edit_ops.specs.Aligning.{alignments, cursor_column, shares_line}
use Rattle.edit_ops.specs.Leaving.{edited_text}

-- a selection by its ends, turned or not
abbrev pub range : ℕ → ℕ → Bool → Range
range a b turned = record { low = a; high = b; turned = turned; target = None }

pub record AlignExamples : Type 0 where
  pub behind_a_tab : cursor_column (codes "\tb\naab\n") 8 (only 1) ≡ 8
  pub to_a_tab_stop : edited_text (codes "\tb\naab\n") (alignments (codes "\tb\naab\n") 8 (only 1 ∷ only 4 ∷ [])) ≡ codes "\tb\na       ab\n"
  pub to_the_greatest : edited_text (codes "a\nbcd\n") (alignments (codes "a\nbcd\n") 8 (only 0 ∷ only 4 ∷ [])) ≡ codes "  a\nbcd\n"
  pub nearest_last : edited_text (codes "abc\nd\n") (alignments (codes "abc\nd\n") 8 (only 2 ∷ only 4 ∷ [])) ≡ codes "abc\n  d\n"
  -- the cursor tells how many, and they go before the first character
  pub by_cursors : edited_text (codes "abcd\nefgh\n") (alignments (codes "abcd\nefgh\n") 8 (range 1 3 false ∷ range 6 8 true ∷ [])) ≡ codes "abcd\ne  fgh\n"
  pub by_a_cursor_at_its_end : edited_text (codes "abcd\nefgh\n") (alignments (codes "abcd\nefgh\n") 8 (range 1 3 true ∷ range 6 8 false ∷ [])) ≡ codes "a  bcd\nefgh\n"
  -- the cursor of a selection of two lines is on the second
  pub over_two_lines : edited_text (codes "ab\ncd\nefg\n") (alignments (codes "ab\ncd\nefg\n") 8 (range 1 3 false ∷ range 6 8 false ∷ [])) ≡ codes "a  b\ncd\nefg\n"
  -- two cells of one character
  pub wide_character : edited_text (0x6F22 ∷ codes "a\nb\n") (alignments (0x6F22 ∷ codes "a\nb\n") 8 (only 1 ∷ only 3 ∷ [])) ≡ 0x6F22 ∷ codes "a\n  b\n"
  pub one_alone : edited_text (codes "abc\n") (alignments (codes "abc\n") 8 (only 2 ∷ [])) ≡ codes "abc\n"
  pub nothing_goes_in_alone : put_together (alignments (codes "abc\n") 8 (only 2 ∷ [])) ≡ 0
  pub two_on_a_line : shares_line (codes "abc\n") (only 0 ∷ only 2 ∷ []) ≡ true
  pub two_later : shares_line (codes "a\nbc\nd\n") (only 0 ∷ only 2 ∷ only 3 ∷ []) ≡ true
  pub begins_tell : shares_line (codes "ab\ncd\n") (range 1 3 false ∷ only 4 ∷ []) ≡ false
  pub each_on_its_own : shares_line (codes "a\nbc\nd\n") (only 0 ∷ only 2 ∷ only 5 ∷ []) ≡ false
