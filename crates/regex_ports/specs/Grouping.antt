-- What the groups of a pattern's matches are.
use Rattle.std.specs.Prelude.{ℕ, ◌+◌, ◌-◌, List, [], ◌∷◌, length, map, flat_map, Option, Some, None, option_map}
use Rattle.std.specs.List.{range_with_len}
use Rattle.std.specs.Str.{chars}
use Rattle.regex.specs.Patterns.{Re, Match, find_all_str, span}
use Rattle.regex.specs.Writes.{group_of}
use Rattle.regex_syntax.specs.Brackets.{Nested}
use Rattle.regex_syntax.specs.Grammar.{Names, read}
use Rattle.regex_ports.specs.declared.pattern.Span.{Span}
use Rattle.regex_ports.specs.declared.pattern.GroupSpan.{GroupSpan}
use Rattle.regex_ports.specs.declared.pattern.Groups.{Groups}
use Rattle.regex_ports.specs.Matching.{options, span_of}

-- of a match of a pattern that has so many groups, the match being one of them: the range of the match at 0, and at n that
-- of its n-th group, if it took part
abbrev pub group_spans : ℕ → Match → List (Option Span)
group_spans count m = Some (span_of (span m)) ∷ map (λ n. option_map span_of (group_of m n)) (range_with_len 1 (count - 1))

-- the groups of the matches of what a text was read as, if it is a pattern
abbrev pub grouped_by : Option (Nested Re × Names) → List ℕ → List (List (Option Span))
grouped_by None text = []
grouped_by (Some (re, names)) text = map (group_spans (length names)) (find_all_str re.value text)

-- the groups of each of the matches of the pattern that a text is
abbrev pub groups_of : List ℕ → List ℕ → List (List (Option Span))
groups_of source text = grouped_by (read options (chars source)) text

-- the ranges of some groups
abbrev pub spans_of : Groups → List (Option Span)
spans_of g = g.spans.items

-- the range of a group by its number
abbrev pub numbered : ℕ → Span → GroupSpan
numbered n s = record { group = n; span = s }

-- the ranges of groups that took part, by their numbers, where the first of the groups has a number
abbrev pub numbered_from : ℕ → List (Option Span) → List GroupSpan
numbered_from n [] = []
numbered_from n (None ∷ spans) = numbered_from (n + 1) spans
numbered_from n (Some s ∷ spans) = numbered n s ∷ numbered_from (n + 1) spans

-- the groups that took part in the matches of the pattern that a text is, match by match; the match itself has number 0
abbrev pub groups_found : List ℕ → List ℕ → List GroupSpan
groups_found source text = flat_map (numbered_from 0) (groups_of source text)
