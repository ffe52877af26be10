-- What keeping by a pattern makes of the selections of a text. The pattern is given by the text that it was made of.
use Rattle.std.specs.Prelude.{ℕ, ◌+◌, ◌-◌, Bool, not, if◌then◌else◌, List, length, take, drop, map, filter, slice_range, encode_utf8_all}
use Rattle.list_model.specs.Ranges.{Range, Selected}
use Rattle.list_model.specs.Settling.{settled}
use Rattle.selection_set.specs.declared.sel.Sel.{Sel}
use Rattle.selection_set.specs.Held.{main_of}
use Rattle.selection_set.specs.Listing.{ranges_of}
use Rattle.regex_ports.specs.declared.pattern.Span.{Span}
use Rattle.regex_ports.specs.Matching.{matches_of, is_some_span}

-- the characters of a selection, which are all that is searched for it
abbrev pub selected_chars : List ℕ → Range → List ℕ
selected_chars text r = slice_range text r.low (r.high + 1)

-- the matches in some characters of the pattern that a text is, in bytes of UTF-8
abbrev pub spans_in : List ℕ → List ℕ → List Span
spans_in source chars = matches_of source (encode_utf8_all chars)

-- the bytes of a selection's characters, and those of the selections of a list from one of them on
abbrev pub selected_bytes : List ℕ → Range → List ℕ
selected_bytes text r = encode_utf8_all (selected_chars text r)

abbrev pub bytes_left : List ℕ → List Sel → ℕ → List (List ℕ)
bytes_left text sels n = map (selected_bytes text) (ranges_of text (drop n sels))

-- whether a selection has a match, an empty one and one at its end too
abbrev pub has_match : List ℕ → List ℕ → Range → Bool
has_match source text r = is_some_span (spans_in source (selected_chars text r))

-- whether a selection is kept: it has a match, or where those without one are wanted it has none
abbrev pub is_kept : Bool → List ℕ → List ℕ → Range → Bool
is_kept matching source text r = if matching then has_match source text r else not (has_match source text r)

-- the place of the main selection among those that are kept; where it isn't, the last place
abbrev pub main_kept : (Range → Bool) → Selected → ℕ
main_kept test s = if test (main_of s) then length (filter test (take s.main s.list)) else length (filter test s.list) - 1

-- the settled list of the selections that are kept
abbrev pub kept_each : (Range → Bool) → Selected → Selected
kept_each test s = settled (record { list = filter test s.list; main = main_kept test s })
