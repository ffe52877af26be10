-- The definitions at given texts.
use Rattle.std.specs.Prelude.{◌≡◌, ℕ, List, [], ◌∷◌, true, false, if◌then◌else◌, Some, None, Ok, Err, codes}
use Rattle.std.specs.Str.{bytes_eq}
use Rattle.kak_words.specs.declared.parts.Piece.{Piece}
use Rattle.kak_words.specs.declared.parts.Piece.TheVariants.{Plain, Expansion}
use Rattle.kak_words.specs.declared.parts.Word.{Word}
use Rattle.kak_words.specs.declared.parts.Command.{Command}
use Rattle.kak_words.specs.Reading.{commands_of}
use Rattle.kak_words.specs.Expanding.{Table, expanded}
use Rattle.kak_words.specs.Quoting.{quoted, quoted_command}

-- a plain word of a text, and a quoted one
abbrev pub bare_word : List ℕ → Word
bare_word text = record { pieces = Plain text ∷ []; quoted = false }

abbrev pub verbatim : List ℕ → Word
verbatim text = record { pieces = Plain text ∷ []; quoted = true }

-- an expansion, by itself and as an unquoted word
abbrev pub named : List ℕ → List ℕ → Piece
named kind name = Expansion (record { kind = kind; name = name })

abbrev pub expansion : List ℕ → List ℕ → Word
expansion kind name = record { pieces = named kind name ∷ []; quoted = false }

-- a word of pieces in double quotes
abbrev pub pieced : List Piece → Word
pieced pieces = record { pieces = pieces; quoted = true }

-- a command of words
abbrev pub command : List Word → Command
command words = record { words = words }

-- `%val{two}` stands for two strings, `%val{none}` for none, and nothing else is in the table
abbrev pub given_table : Table
given_table kind name =
    if bytes_eq kind (codes "val") then (if bytes_eq name (codes "two") then Some (codes "a b" ∷ codes "c" ∷ []) else
    (if bytes_eq name (codes "none") then Some [] else None)) else None

-- the table of examples
pub record WorkedExamples : Type 0 where
  -- words and commands
  pub nothing : commands_of [] ≡ Ok []
  pub quoted_words : commands_of (codes "echo 'it''s' %{a{b}c} \"x\"\"y\"") ≡ Ok (command (bare_word (codes "echo") ∷ verbatim (codes "it's") ∷ verbatim (codes "a{b}c") ∷ verbatim (codes "x\"y") ∷ []) ∷ [])
  pub two_commands : commands_of (codes " a\tb;;\n c ;") ≡ Ok (command (bare_word (codes "a") ∷ bare_word (codes "b") ∷ []) ∷ command (bare_word (codes "c") ∷ []) ∷ [])
  pub comment : commands_of (codes "#'\n # x\na#b #c") ≡ Ok (command (bare_word (codes "a#b") ∷ bare_word (codes "#c") ∷ []) ∷ [])
  pub comment_behind_semicolon : commands_of (codes "a;#b;c") ≡ Ok (command (bare_word (codes "a") ∷ []) ∷ [])
  -- what follows a quoted word begins a new one
  pub next_word : commands_of (codes "'a'b\"c") ≡ Ok (command (verbatim (codes "a") ∷ bare_word (codes "b\"c") ∷ []) ∷ [])
  pub next_word_behind_form : commands_of (codes "%val{client}x") ≡ Ok (command (expansion (codes "val") (codes "client") ∷ bare_word (codes "x") ∷ []) ∷ [])
  -- a no-break space is an ordinary character
  pub no_break_space : commands_of (97 ∷ 160 ∷ 98 ∷ []) ≡ Ok (command (bare_word (97 ∷ 194 ∷ 160 ∷ 98 ∷ []) ∷ []) ∷ [])
  -- any mark opens a form, and a doubled one is one
  pub bar : commands_of (codes "%|a||b| x") ≡ Ok (command (verbatim (codes "a|b") ∷ bare_word (codes "x") ∷ []) ∷ [])
  pub semicolon_mark : commands_of (codes "%;a;") ≡ Ok (command (verbatim (codes "a") ∷ []) ∷ [])
  pub percent_mark : commands_of (codes "%%a%") ≡ Ok (command (verbatim (codes "a") ∷ []) ∷ [])
  pub expansion_of_bars : commands_of (codes "%val|client|") ≡ Ok (command (expansion (codes "val") (codes "client") ∷ []) ∷ [])
  pub other_brackets : commands_of (codes "%[a[{]b] %(x) %<y>") ≡ Ok (command (verbatim (codes "a[{]b") ∷ verbatim (codes "x") ∷ verbatim (codes "y") ∷ []) ∷ [])
  -- a `%` that begins no form stands for itself
  pub percent_digit : commands_of (codes "%5;") ≡ Ok (command (bare_word (codes "%5") ∷ []) ∷ [])
  pub percent_letters : commands_of (codes "%ab c%{d") ≡ Ok (command (bare_word (codes "%ab") ∷ bare_word (codes "c%{d") ∷ []) ∷ [])
  pub percent_alone : commands_of (codes "% x") ≡ Ok (command (bare_word (codes "%") ∷ bare_word (codes "x") ∷ []) ∷ [])
  pub percent_inside : commands_of (codes "100%sure") ≡ Ok (command (bare_word (codes "100%sure") ∷ []) ∷ [])
  -- backslashes
  pub escaped_blank : commands_of (codes "a\\ b\\;c") ≡ Ok (command (bare_word (codes "a b;c") ∷ []) ∷ [])
  pub escaped_opening : commands_of (codes "\\%{ \\'a \\\"b \\#c") ≡ Ok (command (bare_word (codes "%{") ∷ bare_word (codes "'a") ∷ bare_word (codes "\"b") ∷ bare_word (codes "#c") ∷ []) ∷ [])
  pub escaped_newline : commands_of (codes "a\\\nb") ≡ Ok (command (bare_word (codes "a\nb") ∷ []) ∷ [])
  pub other_backslashes : commands_of (codes "a\\\\;b\\%\\") ≡ Ok (command (bare_word (codes "a\\;b\\%\\") ∷ []) ∷ [])
  -- double quotes
  pub quoted_expansion : commands_of (codes "\"a%val{two}b\"") ≡ Ok (command (pieced (Plain (codes "a") ∷ named (codes "val") (codes "two") ∷ Plain (codes "b") ∷ []) ∷ []) ∷ [])
  pub quoted_percent : commands_of (codes "\"%%val{two} %5 %\"") ≡ Ok (command (verbatim (codes "%val{two} %5 %") ∷ []) ∷ [])
  pub quoted_nameless : commands_of (codes "\"%{a\"") ≡ Ok (command (verbatim (codes "%{a") ∷ []) ∷ [])
  pub quote_in_name : commands_of (codes "\"%opt{a\"\"b}\"") ≡ Ok (command (pieced (named (codes "opt") (codes "a\"b") ∷ []) ∷ []) ∷ [])
  pub quote_is_no_mark : commands_of (codes "\"%val\"\"x\"\"\"") ≡ Ok (command (verbatim (codes "%val\"x\"") ∷ []) ∷ [])
  pub no_text : commands_of (codes "\"\" ''") ≡ Ok (command (pieced [] ∷ verbatim [] ∷ []) ∷ [])
  -- what isn't closed
  pub unclosed_form : commands_of (codes "echo %{a") ≡ Err 5
  pub unclosed_mark : commands_of (codes "echo %abc,def") ≡ Err 5
  pub unclosed_single : commands_of (codes "a; 'b''") ≡ Err 3
  pub unclosed_double : commands_of (codes "a \"%val{\"\"") ≡ Err 2
  pub unclosed_inside : commands_of (codes "\"ab%val{client\"") ≡ Err 3
  pub unclosed_by_quote : commands_of (codes "\"%opt{a\"b}\"") ≡ Err 1
  pub first_unclosed : commands_of (codes "%{ 'x") ≡ Err 0
  -- places count characters
  pub wide_characters : commands_of (233 ∷ 32 ∷ 39 ∷ []) ≡ Err 2
  -- expanding
  pub several_words : expanded given_table (command (bare_word (codes "x") ∷ expansion (codes "val") (codes "two") ∷ [])) ≡ Ok (codes "x" ∷ codes "a b" ∷ codes "c" ∷ [])
  pub no_words : expanded given_table (command (expansion (codes "val") (codes "none") ∷ [])) ≡ Ok []
  pub one_word : expanded given_table (command (pieced (Plain (codes "x") ∷ named (codes "val") (codes "two") ∷ []) ∷ [])) ≡ Ok (codes "xa b c" ∷ [])
  pub empty_word : expanded given_table (command (pieced [] ∷ pieced (named (codes "val") (codes "none") ∷ []) ∷ [])) ≡ Ok ([] ∷ [] ∷ [])
  pub unknown_kind : expanded given_table (command (bare_word (codes "x") ∷ expansion (codes "sh") (codes "ls") ∷ expansion (codes "val") (codes "no") ∷ [])) ≡ Err (codes "ls")
  -- quoting
  pub quoted_text : quoted (codes "it's") ≡ codes "'it''s'"
  pub read_back : commands_of (quoted (codes "a';\n#")) ≡ Ok (quoted_command (codes "a';\n#") ∷ [])
