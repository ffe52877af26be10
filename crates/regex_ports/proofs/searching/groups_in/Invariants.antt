use Rattle.std.proofs.Common.{◌≡◌, ◌++◌, map, length}
use Rattle.std.specs.Prelude.{flat_map}
use Rattle.std.specs.List.{AllByRecursion}
use Rattle.regex.specs.Locations.{location_count}
use Rattle.regex.specs.Patterns.{find_all_str}
use Rattle.regex.specs.Strings.{regex_pattern, matcher_pattern, group_count}
use Rattle.regex_ports.specs.Searching.{taking_part}
use Rattle.regex_ports.specs.Series.{AreBytes}
use Rattle.regex_ports.proofs.searching.groups_in.Given as goal

abbrev pub invariant-loop-found : goal.invariant-loop-found
invariant-loop-found g l = record {
  pattern : matcher_pattern l.matcher ≡ regex_pattern l.regex;
  room : location_count l.locations ≡ group_count l.regex;
  found : l.found.items ++ map (λ text. flat_map (taking_part (group_count l.regex)) (find_all_str (regex_pattern l.regex) text)) (g.T.Texts.left l.texts) ≡ map (λ text. flat_map (taking_part (group_count l.regex)) (find_all_str (regex_pattern l.regex) text)) (g.T.Texts.left l.fn.texts);
  bytes : AllByRecursion AreBytes (g.T.Texts.left l.texts) → AllByRecursion AreBytes (g.T.Texts.left l.fn.texts);
}

abbrev pub decreases-loop-found : goal.decreases-loop-found
decreases-loop-found g l = length (g.T.Texts.left l.texts)
