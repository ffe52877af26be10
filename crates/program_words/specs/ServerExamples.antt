-- Words, whether a server may be called by them, and what they name.
use Rattle.std.specs.Prelude.{◌≡◌, ℕ, List, [], ◌∷◌, true, false, Some, None, codes, replicate}
use Rattle.program_words.specs.ServerWords.{is_session_name, is_call, session_of, file_of}

-- `-s` and a session's name
abbrev pub naming : List ℕ → List (List ℕ)
naming session = codes "-s" ∷ session ∷ []

-- the same, and a file's name
abbrev pub opening_words : List ℕ → List ℕ → List (List ℕ)
opening_words session file = codes "-s" ∷ session ∷ file ∷ []

-- the table of examples
pub record ServerExamples : Type 0 where
  pub bare : is_call (naming (codes "s")) ≡ true
  pub bare_session : session_of (naming (codes "s")) ≡ codes "s"
  pub bare_file : file_of (naming (codes "s")) ≡ None
  pub filed : is_call (opening_words (codes "s") (codes "notes of today")) ≡ true
  pub filed_session : session_of (opening_words (codes "s") (codes "n")) ≡ codes "s"
  pub filed_file : file_of (opening_words (codes "s") (codes "n")) ≡ Some (codes "n")
  pub none : is_call [] ≡ false
  pub no_session : is_call (codes "-s" ∷ []) ≡ false
  pub no_flag : is_call (codes "s" ∷ codes "n" ∷ []) ≡ false
  pub other_flag : is_call (codes "-c" ∷ codes "s" ∷ []) ≡ false
  pub two_files : is_call (codes "-s" ∷ codes "s" ∷ codes "n" ∷ codes "m" ∷ []) ≡ false
  pub file_without_name : is_call (opening_words (codes "s") []) ≡ false
  pub file_of_two_lines : is_call (opening_words (codes "s") (110 ∷ 10 ∷ 109 ∷ [])) ≡ false
  -- a session's name
  pub all_kinds : is_session_name (codes "Az_09-Za") ≡ true
  pub empty : is_session_name [] ≡ false
  pub longest : is_session_name (replicate 64 97) ≡ true
  pub too_long : is_session_name (replicate 65 97) ≡ false
  pub dotted : is_session_name (codes "a.b") ≡ false
  pub up : is_session_name (codes "..") ≡ false
  pub slashed : is_session_name (codes "a/b") ≡ false
  pub spaced : is_session_name (codes "a b") ≡ false
  -- the bytes of a letter that isn't of ASCII, and what stands beside letters and digits there
  pub foreign : is_session_name (195 ∷ 169 ∷ []) ≡ false
  pub beside : is_session_name (64 ∷ []) ≡ false
