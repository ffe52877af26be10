use Rattle.std.proofs.Common.{◌≡◌, ℕ, List, [], ◌∷◌, map, length, Option, Some, None, ap, ap₂, ◌∙◌, sym, rules}
use Rattle.std.specs.Option.{option_or}
use Rattle.regex.specs.Strings.{match_span, spans_left}
use Rattle.regex_ports.specs.declared.pattern.Span.{Span}
use Rattle.regex_ports.specs.Matching.{span_of}
use Rattle.regex_ports.specs.Seeking.{span_begins_before}
use Rattle.regex_ports.proofs.SpanLemmas.{spans-end, spans-more}
use Rattle.regex_ports.proofs.SeekLemmas.{last_left, last-passed, span-by-ends}
use Rattle.regex_ports.proofs.seeking.last_before.Goals as goal

pub loop-m-preserved : goal.loop-m-preserved
loop-m-preserved c =
    let end = length c.args.text.now in
    let found : Span = record { start = c.start.result; end = c.end.result } in
    let same : found ≡ span_of (match_span c.in-Some.m) = span-by-ends c.start.result c.end.result c.in-Some.m.start c.in-Some.m.end c.start.ensures c.end.ensures in
    let left = map span_of (spans_left c.next.new.self) in
    ap₂ option_or (last-passed (span_begins_before c.args.byte) c.loop-m.before c.later-before.result found left c.later-before.ensures) (last-passed (span_begins_before end) c.loop-m.last c.later-last.result found left c.later-last.ensures)
    ∙ ap (λ (x : Span). option_or (last_left (span_begins_before c.args.byte) c.loop-m.before (x ∷ left)) (last_left (span_begins_before end) c.loop-m.last (x ∷ left))) same
    ∙ ap (λ xs. option_or (last_left (span_begins_before c.args.byte) c.loop-m.before (map span_of xs)) (last_left (span_begins_before end) c.loop-m.last (map span_of xs))) (sym (spans-more c.loop-m.m-iterator c.next.new.self c.in-Some.m c.in-Some.ensures.steps))
    ∙ c.loop-m.invariant

pub returns : goal.returns
returns c =
    let end = length c.args.text.now in
    c.or_else.ensures
    ∙ ap (λ xs. option_or (last_left (span_begins_before c.args.byte) c.loop-m.before (map span_of xs)) (last_left (span_begins_before end) c.loop-m.last (map span_of xs))) (sym (spans-end c.loop-m.m-iterator c.in-None.ensures.steps.0))
    ∙ c.loop-m.invariant
