-- What a pattern finds in a text.
use Rattle.std.specs.Prelude.{ℕ, suc, ◌-◌, ◌==◌, if◌then◌else◌, Bool, true, false, List, [], ◌∷◌, length, map, Option, Some, None, encode_utf8}
use Rattle.std.specs.Str.{chars}
use Rattle.regex.specs.Patterns.{Re, Config, default_config, find_all_str, span}
use Rattle.regex_syntax.specs.Brackets.{Nested}
use Rattle.regex_syntax.specs.Grammar.{Names, read}
use Rattle.regex_ports.specs.declared.pattern.Span.{Span}

-- the options of all patterns: `^` and `$` match at the ends of lines, and `.` matches a newline
abbrev pub options : Config
options = record default_config { flags = record default_config.flags { multi_line = true; dot_matches_new_line = true } }

-- a range of bytes
abbrev pub span_of : ℕ × ℕ → Span
span_of (start, end) = record { start = start; end = end }

-- the matches of what a text was read as, from left to right, if it is a pattern
abbrev pub found_by : Option (Nested Re × Names) → List ℕ → List Span
found_by None text = []
found_by (Some (re, names)) text = map span_of (map span (find_all_str re.value text))

-- the matches of the pattern that a text is
abbrev pub matches_of : List ℕ → List ℕ → List Span
matches_of source text = found_by (read options (chars source)) text

-- whether there is a match among some
abbrev pub is_some_span : List Span → Bool
is_some_span [] = false
is_some_span (s ∷ ss) = true

-- whether the pattern that a text is has a match in another one, an empty match and one at its end too
abbrev pub is_found_in : List ℕ → List ℕ → Bool
is_found_in source text = is_some_span (matches_of source text)

-- how many of some characters begin before a byte of theirs
abbrev pub chars_before : List ℕ → ℕ → ℕ
chars_before [] b = 0
chars_before (c ∷ cs) b = if b == 0 then 0 else suc (chars_before cs (b - length (encode_utf8 c)))
