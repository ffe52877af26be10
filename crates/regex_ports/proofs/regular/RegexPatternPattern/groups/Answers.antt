use Rattle.std.proofs.Common.{◌≡◌, map, ◌∙◌}
use Rattle.std.proofs.lemmas.Result.{IfOk-weaker}
use Rattle.regex.specs.Patterns.{find_all_str}
use Rattle.regex.specs.Strings.{regex_pattern, group_count}
use Rattle.regex_ports.specs.Grouping.{group_spans, groups_of, spans_of}
use Rattle.regex_ports.proofs.RegularLemmas.{groups-read}
use Rattle.regex_ports.proofs.regular.RegexPatternPattern.groups.Goals as goal

pub returns : goal.returns
returns c =
    let regex = c.self.inside.regex in
    IfOk-weaker c.groups.result (λ v. map spans_of v.items ≡ map (group_spans (group_count regex)) (find_all_str (regex_pattern regex) c.args.text.now)) (λ v. map spans_of v.items ≡ groups_of c.args.self.now c.args.text.now)
    (λ v e. e ∙ groups-read regex c.args.self.now c.args.text.now c.self.view_is c.self.invariant.0 c.self.invariant.1 (λ k. (c.type_inv.text k).fits)) c.groups.ensures
