-- What was added, with the matches still to come, is all of them.
use Rattle.std.proofs.Common.{◌≡◌, ◌+◌, ◌-◌, ◌≤◌, ◌++◌, option_map, length}
use Rattle.std.specs.Prelude.{flat_map, Option}
use Rattle.regex.specs.Locations.{location_count}
use Rattle.regex.specs.Patterns.{Match, find_str, find_all_str}
use Rattle.regex.specs.Strings.{matcher_pattern}
use Rattle.regex_hir.specs.Find.{matches_from}
use Rattle.regex_ports.specs.Searching.{found_span, taking_part, AreLocated}
use Rattle.regex_ports.proofs.searching.push_groups.Given as goal

abbrev pub invariant-loop : goal.invariant-loop
invariant-loop l = record {
  pattern : matcher_pattern l.matcher ≡ matcher_pattern l.fn.matcher;
  room : location_count l.locations ≡ location_count l.fn.locations;
  few : l.counter ≤ length l.text;
  still : Option Match;
  next : l.next ≡ option_map found_span still;
  located : AreLocated still l.locations;
  rest : l.out ++ flat_map (taking_part (location_count l.fn.locations)) (matches_from (find_str (matcher_pattern l.fn.matcher) l.text) (length l.text + 1 - l.counter) still) ≡ l.fn.out ++ flat_map (taking_part (location_count l.fn.locations)) (find_all_str (matcher_pattern l.fn.matcher) l.text);
}
