use Rattle.std.proofs.Common.{◌≡◌, map, ◌∙◌}
use Rattle.std.specs.Prelude.{flat_map}
use Rattle.std.specs.List.{AllByRecursion}
use Rattle.regex.specs.Patterns.{find_all_str}
use Rattle.regex.specs.Strings.{regex_pattern, group_count}
use Rattle.regex_ports.specs.Grouping.{groups_found}
use Rattle.regex_ports.specs.Searching.{taking_part}
use Rattle.regex_ports.specs.Series.{AreBytes}
use Rattle.regex_ports.proofs.SearchLemmas.{all-gathered}
use Rattle.regex_ports.proofs.SeriesLemmas.{if-ok-both}
use Rattle.regex_ports.proofs.regular.RegexPatternPattern.groups_in.Goals as goal

pub returns : goal.returns
returns g c =
    let regex = c.self.inside.regex in
    let texts = g.T.Texts.left c.args.texts.now in
    if-ok-both c.groups_in.result (λ v. v.items ≡ map (λ text. flat_map (taking_part (group_count regex)) (find_all_str (regex_pattern regex) text)) texts) (λ v. AllByRecursion AreBytes texts) (λ v. v.items ≡ map (groups_found c.args.self.now) texts)
    (λ v e bytes. e ∙ all-gathered regex c.args.self.now c.self.view_is c.self.invariant.0 c.self.invariant.1 texts bytes) c.groups_in.ensures.found c.groups_in.ensures.bytes
