-- Key texts and what they are read as.
use Rattle.std.specs.Prelude.{◌≡◌, [], ◌∷◌, true, Ok, Err, codes}
use Rattle.key_names.specs.declared.key.Base.TheVariants.{Char, Ret, Tab, Esc, PageUp, F}
use Rattle.key_names.specs.Reading.{read_text, bare}
use Rattle.key_names.specs.Printing.{spelling}

-- the table of examples
pub record WorkedExamples : Type 0 where
  pub nothing : read_text [] ≡ Ok []
  pub insert_hi : read_text (codes "ihi<esc>") ≡ Ok (bare (Char 105) ∷ bare (Char 104) ∷ bare (Char 105) ∷ bare Esc ∷ [])
  pub quit : read_text (codes ":q<ret>") ≡ Ok (bare (Char 58) ∷ bare (Char 113) ∷ bare Ret ∷ [])
  -- the place is that of the first key without a reading
  pub no_such_name : read_text (codes "ia<nope>") ≡ Err 2
  pub first_counts : read_text (codes "a<lt><x><nope><b") ≡ Err 8
  -- modifiers in any order, each at most once
  pub any_order : read_text (codes "<a-c-x>") ≡ Ok (record (bare (Char 120)) { control = true; alt = true } ∷ [])
  pub twice : read_text (codes "<c-c-x>") ≡ Err 0
  pub modified_dash : read_text (codes "<c-->") ≡ Ok (record (bare (Char 45)) { control = true } ∷ [])
  pub modifier_alone : read_text (codes "<c->") ≡ Err 0
  -- shift makes a small letter a capital, stays with names that are no characters, and goes with nothing else
  pub capital : read_text (codes "<s-a>") ≡ Ok (bare (Char 65) ∷ [])
  pub shifted_tab : read_text (codes "<s-tab>") ≡ Ok (record (bare Tab) { shift = true } ∷ [])
  pub shifted_capital : read_text (codes "<s-A>") ≡ Err 0
  pub shifted_space : read_text (codes "<s-space>") ≡ Err 0
  -- a name of a character is that character
  pub named_characters : read_text (codes "<plus><minus>") ≡ Ok (bare (Char 43) ∷ bare (Char 45) ∷ [])
  pub raw_characters : read_text (codes "+->;") ≡ Ok (bare (Char 43) ∷ bare (Char 45) ∷ bare (Char 62) ∷ bare (Char 59) ∷ [])
  -- a raw newline and a raw tab have keys, other control characters have none
  pub raw_newline : read_text (97 ∷ 10 ∷ 9 ∷ []) ≡ Ok (bare (Char 97) ∷ bare Ret ∷ bare Tab ∷ [])
  pub raw_control : read_text (97 ∷ 27 ∷ []) ≡ Err 1
  -- brackets that aren't closed, or hold a bracket or a control character
  pub unclosed_bracket : read_text (codes "a<esc") ≡ Err 1
  pub bracket_inside : read_text (codes "<<>") ≡ Err 0
  pub empty_brackets : read_text (codes "<>") ≡ Err 0
  pub newline_inside : read_text (60 ∷ 99 ∷ 45 ∷ 10 ∷ 62 ∷ []) ≡ Err 0
  -- function keys
  pub first_function_key : read_text (codes "<F1>") ≡ Ok (bare (F 1) ∷ [])
  pub last_function_key : read_text (codes "<c-f12>") ≡ Ok (record (bare (F 12)) { control = true } ∷ [])
  pub no_function_key : read_text (codes "<F13>") ≡ Err 0
  pub leading_zero : read_text (codes "<F01>") ≡ Err 0
  -- canonical spellings
  pub plain_letter : spelling (bare (Char 97)) ≡ codes "a"
  pub space : spelling (bare (Char 32)) ≡ codes "<space>"
  pub less : spelling (bare (Char 60)) ≡ codes "<lt>"
  pub all_modifiers : spelling (record { control = true; alt = true; shift = true; base = PageUp }) ≡ codes "<c-a-s-pageup>"
  pub controlled : spelling (record (bare (Char 120)) { control = true }) ≡ codes "<c-x>"
  pub function_key : spelling (bare (F 12)) ≡ codes "<F12>"
