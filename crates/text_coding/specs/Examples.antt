-- Files that are loaded and saved.
use Rattle.std.specs.Prelude.{◌≡◌, ℕ, List, [], ◌∷◌, Ok, Err}
use Rattle.text_coding.specs.declared.form.Eol.TheVariants.{Lf, Crlf}
use Rattle.text_coding.specs.declared.form.Bom.TheVariants.{No, Utf8}
use Rattle.text_coding.specs.declared.form.DecodeError.TheVariants.{NotUtf8}
use Rattle.text_coding.specs.Coding.{loaded, saved}

-- `a` and `b` on two lines, with a mark, and with returns
abbrev pub marked : List ℕ
marked = 0xEF ∷ 0xBB ∷ 0xBF ∷ 0x61 ∷ 0x0D ∷ 0x0A ∷ 0x62 ∷ 0x0D ∷ 0x0A ∷ []

-- the table of examples
pub record WorkedExamples : Type 0 where
  -- the mark and the returns belong to the form, and come again
  pub both : loaded marked ≡ Ok (record { text = 0x61 ∷ 10 ∷ 0x62 ∷ 10 ∷ []; eol = Crlf; bom = Utf8 })
  pub both_saved : saved (0x61 ∷ 10 ∷ 0x62 ∷ 10 ∷ []) Crlf Utf8 ≡ marked
  pub plain : loaded (0xC3 ∷ 0xA9 ∷ 10 ∷ []) ≡ Ok (record { text = 0xE9 ∷ 10 ∷ []; eol = Lf; bom = No })
  -- the place counts from the first byte, and is that of the character that isn't whole
  pub bad : loaded (0x61 ∷ 0xFF ∷ []) ≡ Err (NotUtf8 1)
  pub bad_behind_mark : loaded (0xEF ∷ 0xBB ∷ 0xBF ∷ 0x61 ∷ 0xFF ∷ []) ≡ Err (NotUtf8 4)
  pub not_whole : loaded (0x61 ∷ 0xC3 ∷ []) ≡ Err (NotUtf8 1)
  pub no_mark : loaded (0xEF ∷ 0xBB ∷ []) ≡ Err (NotUtf8 0)
  -- returns before some newlines stay
  pub mixed : loaded (0x61 ∷ 13 ∷ 10 ∷ 10 ∷ []) ≡ Ok (record { text = 0x61 ∷ 13 ∷ 10 ∷ 10 ∷ []; eol = Lf; bom = No })
  -- so does a return alone, and one of two before a newline
  pub return_alone : loaded (13 ∷ []) ≡ Ok (record { text = 13 ∷ 10 ∷ []; eol = Lf; bom = No })
  pub two_returns : loaded (13 ∷ 13 ∷ 10 ∷ []) ≡ Ok (record { text = 13 ∷ 10 ∷ []; eol = Crlf; bom = No })
  -- a last newline is put where it lacks
  pub no_newline : loaded (0x61 ∷ []) ≡ Ok (record { text = 0x61 ∷ 10 ∷ []; eol = Lf; bom = No })
  pub return_at_end : loaded (0x61 ∷ 13 ∷ 10 ∷ 13 ∷ []) ≡ Ok (record { text = 0x61 ∷ 10 ∷ 13 ∷ 10 ∷ []; eol = Crlf; bom = No })
  pub empty : loaded [] ≡ Ok (record { text = 10 ∷ []; eol = Lf; bom = No })
  pub mark_alone : loaded (0xEF ∷ 0xBB ∷ 0xBF ∷ []) ≡ Ok (record { text = 10 ∷ []; eol = Lf; bom = Utf8 })
