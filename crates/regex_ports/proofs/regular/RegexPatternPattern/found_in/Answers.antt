use Rattle.std.proofs.Common.{◌≡◌, map, is_some, ◌∙◌}
use Rattle.std.specs.List.{AllByRecursion}
use Rattle.regex.specs.Patterns.{find_str}
use Rattle.regex.specs.Strings.{regex_pattern}
use Rattle.regex_ports.specs.Matching.{is_found_in}
use Rattle.regex_ports.specs.Series.{AreBytes}
use Rattle.regex_ports.proofs.RegularLemmas.{all-found}
use Rattle.regex_ports.proofs.SeriesLemmas.{if-ok-both}
use Rattle.regex_ports.proofs.regular.RegexPatternPattern.found_in.Goals as goal

pub returns : goal.returns
returns g c =
    let regex = c.self.inside.regex in
    let texts = g.T.Texts.left c.args.texts.now in
    if-ok-both c.found_in.result (λ v. v.items ≡ map (λ text. is_some (find_str (regex_pattern regex) text 0)) texts) (λ v. AllByRecursion AreBytes texts) (λ v. v.items ≡ map (is_found_in c.args.self.now) texts)
    (λ v e bytes. e ∙ all-found regex c.args.self.now c.self.view_is c.self.invariant.0 c.self.invariant.1 texts bytes) c.found_in.ensures.found c.found_in.ensures.bytes
