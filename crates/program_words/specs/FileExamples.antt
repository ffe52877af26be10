-- Names, and the keys that open their files.
use Rattle.std.specs.Prelude.{◌≡◌, [], ◌∷◌, true, false, Ok, codes, replicate}
use Rattle.key_names.specs.Reading.{read_text}
use Rattle.program_words.specs.Files.{is_file_name, edit_keys}

-- the table of examples
pub record FileExamples : Type 0 where
  pub none : is_file_name [] ≡ false
  pub short : is_file_name (codes "a") ≡ true
  pub spaced : is_file_name (codes "notes of today") ≡ true
  pub newline : is_file_name (97 ∷ 10 ∷ []) ≡ false
  pub longest : is_file_name (replicate 255 97) ≡ true
  pub too_long : is_file_name (replicate 256 97) ≡ false
  pub plain : read_text (codes ":edit 'notes of today'<ret>") ≡ Ok (edit_keys (codes "notes of today"))
  pub quoted : read_text (codes ":edit 'it''s'<ret>") ≡ Ok (edit_keys (codes "it's"))
  -- a name isn't read as keys
  pub bracketed : read_text (codes ":edit '<lt>esc>'<ret>") ≡ Ok (edit_keys (codes "<esc>"))
