use Rattle.std.proofs.Common.{◌≡◌, length, map, ap, ◌∙◌}
use Rattle.std.proofs.lemmas.Result.{IfOk-weaker}
use Rattle.regex.specs.Patterns.{find_all_str, span}
use Rattle.regex.specs.Strings.{regex_pattern}
use Rattle.regex_ports.specs.Matching.{span_of, matches_of}
use Rattle.regex_ports.specs.Seeking.{first_behind}
use Rattle.regex_ports.proofs.RegularLemmas.{matches-read}
use Rattle.regex_ports.proofs.regular.RegexPatternPattern.first_behind.Goals as goal

pub returns : goal.returns
returns c =
    let text = c.args.text.now in
    IfOk-weaker c.first_behind.result (λ v. v ≡ first_behind c.args.byte (length text) (map span_of (map span (find_all_str (regex_pattern c.self.inside.regex) text)))) (λ v. v ≡ first_behind c.args.byte (length text) (matches_of c.args.self.now text))
    (λ v e. e ∙ ap (first_behind c.args.byte (length text)) (matches-read c.self.inside.regex c.args.self.now text c.self.view_is c.self.invariant.0 c.self.invariant.1 (λ k. (c.type_inv.text k).fits))) c.first_behind.ensures
