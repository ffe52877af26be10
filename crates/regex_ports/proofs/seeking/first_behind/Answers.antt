use Rattle.std.proofs.Common.{◌≡◌, ℕ, List, [], ◌∷◌, map, length, Option, Some, None, true, false, ap, ◌∙◌, sym, rules}
use Rattle.std.specs.Option.{option_or}
use Rattle.regex.specs.Strings.{match_span, spans_left}
use Rattle.regex_ports.specs.declared.pattern.Span.{Span}
use Rattle.regex_ports.specs.Matching.{span_of}
use Rattle.regex_ports.specs.Seeking.{span_begins_before, begins_between}
use Rattle.regex_ports.proofs.SpanLemmas.{spans-end, spans-more}
use Rattle.regex_ports.proofs.SeekLemmas.{first_left, first-passed, first-here, first-none, span-by-ends}
use Rattle.regex_ports.proofs.seeking.first_behind.Goals as goal

pub loop-m-preserved : goal.loop-m-preserved
loop-m-preserved c =
    let end = length c.args.text.now in
    let found : Span = record { start = c.start.result; end = c.end.result } in
    let same : found ≡ span_of (match_span c.in-Some.m) = span-by-ends c.start.result c.end.result c.in-Some.m.start c.in-Some.m.end c.start.ensures c.end.ensures in
    let passed : begins_between c.args.byte end found ≡ false = sym c.is_between.ensures ∙ c.if-is_between.false in
    first-passed (begins_between c.args.byte end) (span_begins_before end) c.loop-m.first c.earlier-first.result found (map span_of (spans_left c.next.new.self)) passed c.earlier-first.ensures
    ∙ ap (λ (x : Span). first_left (begins_between c.args.byte end) (span_begins_before end) c.loop-m.first (x ∷ map span_of (spans_left c.next.new.self))) same
    ∙ ap (λ xs. first_left (begins_between c.args.byte end) (span_begins_before end) c.loop-m.first (map span_of xs)) (sym (spans-more c.loop-m.m-iterator c.next.new.self c.in-Some.m c.in-Some.ensures.steps))
    ∙ c.loop-m.invariant

pub returns-then-is_between : goal.returns-then-is_between
returns-then-is_between c =
    let end = length c.args.text.now in
    let found : Span = record { start = c.start.result; end = c.end.result } in
    let same : found ≡ span_of (match_span c.in-Some.m) = span-by-ends c.start.result c.end.result c.in-Some.m.start c.in-Some.m.end c.start.ensures c.end.ensures in
    let here : begins_between c.args.byte end found ≡ true = sym c.is_between.ensures ∙ c.if-is_between.true in
    first-here (begins_between c.args.byte end) (span_begins_before end) c.loop-m.first found (map span_of (spans_left c.next.new.self)) here
    ∙ ap (λ (x : Span). first_left (begins_between c.args.byte end) (span_begins_before end) c.loop-m.first (x ∷ map span_of (spans_left c.next.new.self))) same
    ∙ ap (λ xs. first_left (begins_between c.args.byte end) (span_begins_before end) c.loop-m.first (map span_of xs)) (sym (spans-more c.loop-m.m-iterator c.next.new.self c.in-Some.m c.in-Some.ensures.steps))
    ∙ c.loop-m.invariant

pub returns : goal.returns
returns c =
    let end = length c.args.text.now in
    first-none c.loop-m.first
    ∙ ap (λ xs. first_left (begins_between c.args.byte end) (span_begins_before end) c.loop-m.first (map span_of xs)) (sym (spans-end c.loop-m.m-iterator c.in-None.ensures.steps.0))
    ∙ c.loop-m.invariant
