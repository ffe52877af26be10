use Rattle.std.proofs.Common.{◌≡◌, length, map}
use Rattle.std.specs.Option.{option_or}
use Rattle.regex.specs.Patterns.{find_all_str, span}
use Rattle.regex.specs.Strings.{regex_pattern, spans_left}
use Rattle.regex_ports.specs.Matching.{span_of}
use Rattle.regex_ports.specs.Seeking.{span_begins_before, last_before}
use Rattle.regex_ports.proofs.SeekLemmas.{last_left}
use Rattle.regex_ports.proofs.seeking.last_before.Given as goal

-- what is found among the matches that are left, or was found before, is what is found among all
abbrev pub invariant-loop-m : goal.invariant-loop-m
invariant-loop-m l =
    option_or (last_left (span_begins_before l.byte) l.before (map span_of (spans_left l.m-iterator))) (last_left (span_begins_before (length l.text)) l.last (map span_of (spans_left l.m-iterator))) ≡ last_before l.byte (length l.text) (map span_of (map span (find_all_str (regex_pattern l.regex) l.text)))
