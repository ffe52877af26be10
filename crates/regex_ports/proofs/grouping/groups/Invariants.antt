use Rattle.std.proofs.Common.{◌≡◌, ◌++◌, map, length}
use Rattle.regex.specs.Locations.{location_count}
use Rattle.regex.specs.Patterns.{find_all_str}
use Rattle.regex.specs.Strings.{regex_pattern, group_count, captures_left}
use Rattle.regex_ports.specs.Grouping.{group_spans, spans_of}
use Rattle.regex_ports.proofs.grouping.groups.Given as goal

abbrev pub invariant-loop-m : goal.invariant-loop-m
invariant-loop-m l = record {
  room : location_count l.locations ≡ group_count l.regex;
  found : map spans_of l.list.items ++ map (group_spans (group_count l.regex)) (captures_left l.all) ≡ map (group_spans (group_count l.regex)) (find_all_str (regex_pattern l.regex) l.text);
}

abbrev pub decreases-loop-m : goal.decreases-loop-m
decreases-loop-m l = length (captures_left l.all)
