use Rattle.std.proofs.Common.{◌≡◌, ◌++◌, map, length, is_some}
use Rattle.std.specs.List.{AllByRecursion}
use Rattle.regex.specs.Patterns.{find_str}
use Rattle.regex.specs.Strings.{regex_pattern, matcher_pattern}
use Rattle.regex_ports.specs.Series.{AreBytes}
use Rattle.regex_ports.proofs.regular.found_in.Given as goal

abbrev pub invariant-loop-found : goal.invariant-loop-found
invariant-loop-found g l = record {
  pattern : matcher_pattern l.matcher ≡ regex_pattern l.regex;
  found : l.found.items ++ map (λ text. is_some (find_str (regex_pattern l.regex) text 0)) (g.T.Texts.left l.texts) ≡ map (λ text. is_some (find_str (regex_pattern l.regex) text 0)) (g.T.Texts.left l.fn.texts);
  bytes : AllByRecursion AreBytes (g.T.Texts.left l.texts) → AllByRecursion AreBytes (g.T.Texts.left l.fn.texts);
}

abbrev pub decreases-loop-found : goal.decreases-loop-found
decreases-loop-found g l = length (g.T.Texts.left l.texts)
