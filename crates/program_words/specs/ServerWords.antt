-- The words by which a server is called, each as its bytes, and what they name.
use Rattle.std.specs.Prelude.{ℕ, nat_lt, Bool, false, ◌&&◌, ◌||◌, ◌==◌, List, [], ◌∷◌, length, codes, Option, Some, None}
use Rattle.std.specs.Char.{is_ascii_alphanumeric}
use Rattle.std.specs.List.{list_all}
use Rattle.std.specs.Str.{bytes_eq, chars}
use Rattle.program_words.specs.Files.{is_file_name}

-- whether a byte may stand in a session's name: an ASCII letter, a digit, `-` or `_`
abbrev pub is_session_char : ℕ → Bool
is_session_char byte = is_ascii_alphanumeric byte || (byte == 45 || byte == 95)

-- whether a session can have this name: 1 to 64 of these
abbrev pub is_session_name : List ℕ → Bool
is_session_name name = nat_lt 0 (length name) && (nat_lt (length name) 65 && list_all is_session_char name)

-- the words that name a session
abbrev pub is_serving : List ℕ → List ℕ → Bool
is_serving flag session = bytes_eq flag (codes "-s") && is_session_name session

-- whether a server may be called by these words: `-s`, a session's name, and a file's name, if there is one
abbrev pub is_call : List (List ℕ) → Bool
is_call (flag ∷ session ∷ []) = is_serving flag session
is_call (flag ∷ session ∷ file ∷ []) = is_serving flag session && is_file_name (chars file)
is_call _ = false

-- the name of the session
abbrev pub session_of : List (List ℕ) → List ℕ
session_of (flag ∷ session ∷ []) = session
session_of (flag ∷ session ∷ file ∷ []) = session
session_of _ = []

-- the name of the file, if one is named
abbrev pub file_of : List (List ℕ) → Option (List ℕ)
file_of (flag ∷ session ∷ file ∷ []) = Some file
file_of _ = None
