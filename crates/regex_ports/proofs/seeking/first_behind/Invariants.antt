use Rattle.std.proofs.Common.{◌≡◌, length, map}
use Rattle.regex.specs.Patterns.{find_all_str, span}
use Rattle.regex.specs.Strings.{regex_pattern, spans_left}
use Rattle.regex_ports.specs.Matching.{span_of}
use Rattle.regex_ports.specs.Seeking.{span_begins_before, begins_between, first_behind}
use Rattle.regex_ports.proofs.SeekLemmas.{first_left}
use Rattle.regex_ports.proofs.seeking.first_behind.Given as goal

-- what is found among the matches that are left is what is found among all
abbrev pub invariant-loop-m : goal.invariant-loop-m
invariant-loop-m l =
    first_left (begins_between l.byte (length l.text)) (span_begins_before (length l.text)) l.first (map span_of (spans_left l.m-iterator)) ≡ first_behind l.byte (length l.text) (map span_of (map span (find_all_str (regex_pattern l.regex) l.text)))
