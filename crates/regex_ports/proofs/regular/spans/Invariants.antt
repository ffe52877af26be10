use Rattle.std.proofs.Common.{◌≡◌, ◌++◌, map}
use Rattle.regex.specs.Patterns.{find_all_str, span}
use Rattle.regex.specs.Strings.{regex_pattern, spans_left}
use Rattle.regex_ports.specs.Matching.{span_of}
use Rattle.regex_ports.proofs.regular.spans.Given as goal

abbrev pub invariant-loop-m : goal.invariant-loop-m
invariant-loop-m l =
    l.found.items ++ map span_of (spans_left l.m-iterator) ≡ map span_of (map span (find_all_str (regex_pattern l.regex) l.text))
