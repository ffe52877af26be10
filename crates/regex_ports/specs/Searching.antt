-- Matches one behind the other, with their groups.
use Rattle.std.specs.Prelude.{◌≡◌, ℕ, List, Option, Some}
use Rattle.regex.specs.Locations.{AreLocationsOf}
use Rattle.regex.specs.Patterns.{Re, Match, find_str, span}
use Rattle.regex.specs.declared.locations.CaptureLocations.{CaptureLocations}
use Rattle.regex_hir.specs.Find.{find_after}
use Rattle.regex_ports.specs.declared.pattern.GroupSpan.{GroupSpan}
use Rattle.regex_ports.specs.declared.pattern.Span.{Span}
use Rattle.regex_ports.specs.Grouping.{group_spans, numbered_from}
use Rattle.regex_ports.specs.Matching.{span_of}

-- the bytes of a match
abbrev pub found_span : Match → Span
found_span m = span_of (span m)

-- the match behind one that ends at a byte
abbrev pub match_behind : Re → List ℕ → ℕ → Option Match
match_behind re text end = find_after (find_str re text) end

-- the groups of a match, if there is one, are where the locations say
abbrev pub AreLocated : Option Match → CaptureLocations → Type 0
AreLocated found l = (m : Match) → found ≡ Some m → AreLocationsOf m l

-- the groups that took part in a match of a pattern that has so many, the match being one of them
abbrev pub taking_part : ℕ → Match → List GroupSpan
taking_part count m = numbered_from 0 (group_spans count m)
