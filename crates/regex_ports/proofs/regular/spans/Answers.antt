use Rattle.std.proofs.Common.{◌≡◌, [], ◌∷◌, ◌++◌, map, ap, ◌∙◌, sym, append-nil, rules}
use Rattle.regex.specs.Strings.{match_span}
use Rattle.regex_ports.specs.Matching.{span_of}
use Rattle.regex_ports.proofs.SpanLemmas.{spans-end, found-more}
use Rattle.regex_ports.proofs.regular.spans.Goals as goal

pub loop-m-preserved : goal.loop-m-preserved
loop-m-preserved c =
    let pushed : c.push.new.self.items ≡ c.loop-m.found.items ++ span_of (match_span c.in-Some.m) ∷ [] = search rules in
    found-more c.loop-m.found.items c.push.new.self.items c.loop-m.m-iterator c.next.new.self c.in-Some.m pushed c.in-Some.ensures.steps ∙ c.loop-m.invariant

pub returns : goal.returns
returns c =
    let none = spans-end c.loop-m.m-iterator c.in-None.ensures.steps.0 in
    sym (ap (λ xs. c.loop-m.found.items ++ map span_of xs) none ∙ append-nil c.loop-m.found.items) ∙ c.loop-m.invariant
