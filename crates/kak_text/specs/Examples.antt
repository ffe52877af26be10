-- Worked examples of classes, cells and bytes, which hold by computation.
use Rattle.std.specs.Prelude.{◌≡◌, [], ◌∷◌, codes}
use Rattle.kak_text.specs.declared.classes.Class.TheVariants.{Line, Blank, Word, Mark}
use Rattle.kak_text.specs.Classes.{class_of, wide}
use Rattle.kak_text.specs.Cells.{cells_of, display_column}
use Rattle.kak_text.specs.Bytes.{bytes_before}

pub record ClassExamples : Type 0 where
  pub newline : class_of 0x0A ≡ Line
  pub tab : class_of 0x09 ≡ Blank
  pub space : class_of 0x20 ≡ Blank
  pub no_break_space : class_of 0xA0 ≡ Blank
  pub wide_space : class_of 0x3000 ≡ Blank
  pub letter : class_of 0x61 ≡ Word
  pub other_letter : class_of 0x6F22 ≡ Word
  pub low_line : class_of 0x5F ≡ Word
  pub digit : class_of 0x37 ≡ Word
  pub other_digit : class_of 0x0667 ≡ Word
  pub letter_number : class_of 0x2167 ≡ Word
  pub one_half : class_of 0xBD ≡ Word
  pub comma : class_of 0x2C ≡ Mark
  pub hyphen : class_of 0x2D ≡ Mark
  pub combining_acute : class_of 0x0301 ≡ Mark
  pub emoji : class_of 0x1F600 ≡ Mark
  pub carriage_return : class_of 0x0D ≡ Mark
  pub line_separator : class_of 0x2028 ≡ Mark
  pub mark_in_wide_word : wide (class_of 0x2C) ≡ Word
  pub blank_in_wide_word : wide (class_of 0x20) ≡ Blank

-- a tab stop at each eighth column
pub record CellExamples : Type 0 where
  pub tab_at_start : cells_of 0x09 0 8 ≡ 8
  pub tab_later : cells_of 0x09 3 8 ≡ 5
  pub tab_at_stop : cells_of 0x09 8 8 ≡ 8
  pub letter : cells_of 0x61 3 8 ≡ 1
  pub newline : cells_of 0x0A 3 8 ≡ 1
  pub control : cells_of 0x1B 3 8 ≡ 1
  pub late_control : cells_of 0x85 3 8 ≡ 1
  pub chinese : cells_of 0x6F22 3 8 ≡ 2
  pub emoji : cells_of 0x1F600 3 8 ≡ 2
  pub combining_acute : cells_of 0x0301 3 8 ≡ 0
  pub one_half : cells_of 0xBD 3 8 ≡ 1
  pub first_place : display_column (codes "a\tb\n") 0 8 ≡ 0
  pub behind_tab : display_column (codes "a\tb\n") 2 8 ≡ 8
  pub newline_place : display_column (codes "a\tb\n") 3 8 ≡ 9
  pub behind_wide : display_column (0x6F22 ∷ 0x09 ∷ 0x61 ∷ 10 ∷ []) 2 4 ≡ 4
  pub behind_combining : display_column (0x65 ∷ 0x0301 ∷ 0x61 ∷ 10 ∷ []) 2 8 ≡ 1

pub record ByteExamples : Type 0 where
  pub ascii : bytes_before (codes "abc\n") 2 ≡ 2
  pub two_bytes : bytes_before (0xE9 ∷ 0x61 ∷ 10 ∷ []) 1 ≡ 2
  pub three_bytes : bytes_before (0x6F22 ∷ 0x61 ∷ 10 ∷ []) 2 ≡ 4
  pub four_bytes : bytes_before (0x61 ∷ 0x1F600 ∷ 10 ∷ []) 2 ≡ 5
  pub none_before_the_first : bytes_before (0x1F600 ∷ 10 ∷ []) 0 ≡ 0

-- all of them
pub record WorkedExamples : Type 0 where
  pub classes : ClassExamples
  pub cells : CellExamples
  pub bytes : ByteExamples
