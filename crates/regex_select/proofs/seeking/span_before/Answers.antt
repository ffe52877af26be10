use Rattle.std.proofs.Common.{◌≡◌, List, ℕ, length, ap₂, ◌∙◌}
use Rattle.std.proofs.lemmas.Result.{IfOk-weaker}
use Rattle.regex_ports.specs.Matching.{matches_of}
use Rattle.regex_ports.specs.Seeking.{last_before}
use Rattle.selection_set.specs.Inside.{range_of}
use Rattle.directions.specs.declared.direction.Direction.TheVariants.{Backward}
use Rattle.regex_select.specs.Rows.{spans_in}
use Rattle.regex_select.specs.Spans.{span_sought}
use Rattle.regex_select.proofs.seeking.span_before.Goals as goal

pub returns : goal.returns
returns g c =
    let source = g.P.Pattern.source c.args.pattern.now in
    let text = c.args.lines.now in
    IfOk-weaker c.last_before.result (λ f. f ≡ last_before c.in_ok-text.byte (length c.as_str.result.now) (matches_of source c.as_str.result.now)) (λ f. f ≡ span_sought Backward text (spans_in source text) (range_of text c.args.from))
    (λ f e. e ∙ ap₂ (λ (b : ℕ) (hay : List ℕ). last_before b (length hay) (matches_of source hay)) c.in_ok-text.ensures.byte (c.as_str.ensures.value ∙ c.in_ok-text.ensures.bytes)) c.last_before.ensures
