-- Whether a pattern matches the whole of a text.
use Rattle.std.specs.Prelude.{ℕ, ◌==◌, ◌&&◌, Bool, List, length}
use Rattle.std.specs.List.{list_any}
use Rattle.regex_ports.specs.declared.pattern.Span.{Span}
use Rattle.regex_ports.specs.Matching.{matches_of}

-- whether a range of bytes is the whole of a text that has so many
abbrev pub is_all : ℕ → Span → Bool
is_all end s = s.start == 0 && s.end == end

-- whether one of the matches of the pattern that a text is, is the whole of another one. Each match is found as all matches
-- are, the earlier alternative first: `l|lx` has the match `l` in `lx`, and so isn't the whole of it
abbrev pub is_whole : List ℕ → List ℕ → Bool
is_whole source text = list_any (is_all (length text)) (matches_of source text)
