use Rattle.std.proofs.Common.{◌≡◌, map, ◌∙◌}
use Rattle.std.proofs.lemmas.Result.{IfOk-weaker}
use Rattle.regex.specs.Patterns.{find_all_str, span}
use Rattle.regex.specs.Strings.{regex_pattern}
use Rattle.regex_ports.specs.Matching.{span_of, matches_of}
use Rattle.regex_ports.proofs.RegularLemmas.{matches-read}
use Rattle.regex_ports.proofs.regular.RegexPatternPattern.matches.Goals as goal

pub returns : goal.returns
returns c =
    IfOk-weaker c.spans.result (λ v. v.items ≡ map span_of (map span (find_all_str (regex_pattern c.self.inside.regex) c.args.text.now))) (λ v. v.items ≡ matches_of c.args.self.now c.args.text.now)
    (λ v e. e ∙ matches-read c.self.inside.regex c.args.self.now c.args.text.now c.self.view_is c.self.invariant.0 c.self.invariant.1 (λ k. (c.type_inv.text k).fits)) c.spans.ensures
