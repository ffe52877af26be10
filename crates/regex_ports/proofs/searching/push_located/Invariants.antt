use Rattle.std.proofs.Common.{◌≡◌, ◌-◌, ◌∷◌, ◌++◌, map, Some, option_map}
use Rattle.std.specs.List.{range_with_len}
use Rattle.regex.specs.Locations.{location, location_count}
use Rattle.regex_ports.specs.Grouping.{numbered_from}
use Rattle.regex_ports.specs.Matching.{span_of}
use Rattle.regex_ports.proofs.searching.push_located.Given as goal

-- what was added, with the groups that are left, is what is to be added
abbrev pub invariant-loop-n : goal.invariant-loop-n
invariant-loop-n l =
    l.out ++ numbered_from l.n (map (λ n. option_map span_of (location l.locations n)) (range_with_len l.n (location_count l.locations - l.n)))
    ≡ l.fn.out ++ numbered_from 0 (Some l.fn.found ∷ map (λ n. option_map span_of (location l.locations n)) (range_with_len 1 (location_count l.locations - 1)))
