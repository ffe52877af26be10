use Rattle.std.proofs.Common.{sym, ap, ◌∙◌}
use Rattle.std.specs.Prelude.{option_to_list}
use Rattle.text_model.proofs.PlaceLemmas.{offset-below}
use Rattle.selection_set.specs.Inside.{range_of}
use Rattle.selection_set.specs.Listing.{ranges_of}
use Rattle.regex_select.specs.Rows.{spans_in}
use Rattle.regex_select.proofs.SpanLemmas.{none-there, some-there, found-is-sought, found-selects}
use Rattle.regex_select.proofs.finding.sought_in_text.Goals as goal

pub unreachable-requires : goal.unreachable-requires
unreachable-requires g c =
    let text = c.args.lines.now in
    let spans = spans_in (g.P.Pattern.source c.args.pattern.now) text in
    found-selects text c.args.direction spans (range_of text c.args.from) c.in-Some.span c.len-stored.ensures.valid.is_text c.requires.ordered (offset-below text c.args.from.high c.requires.high) (sym c.in_ok-span_sought.ensures ∙ c.in-Some.is)
    (ap (λ o. ranges_of text (option_to_list o)) (sym c.in-None-selected_by.is) ∙ c.selected_by.ensures.range)

pub returns-in-None-clause-refused : goal.returns-in-None-clause-refused
returns-in-None-clause-refused g c =
    let text = c.args.lines.now in
    let spans = spans_in (g.P.Pattern.source c.args.pattern.now) text in
    none-there text c.args.direction spans (range_of text c.args.from) c.len-stored.ensures.valid.is_text (sym c.in_ok-span_sought.ensures ∙ c.in-None.is)

pub returns-in-Some-selected_by-clause-seeks : goal.returns-in-Some-selected_by-clause-seeks
returns-in-Some-selected_by-clause-seeks g c =
    let text = c.args.lines.now in
    let spans = spans_in (g.P.Pattern.source c.args.pattern.now) text in
    found-is-sought text c.args.direction spans (range_of text c.args.from) (range_of text c.in-Some-selected_by.found) c.in-Some.span c.len-stored.ensures.valid.is_text c.requires.ordered (offset-below text c.args.from.high c.requires.high) (sym c.in_ok-span_sought.ensures ∙ c.in-Some.is)
    (ap (λ o. ranges_of text (option_to_list o)) (sym c.in-Some-selected_by.is) ∙ c.selected_by.ensures.range)

pub returns-in-Some-selected_by-clause-some : goal.returns-in-Some-selected_by-clause-some
returns-in-Some-selected_by-clause-some g c =
    let text = c.args.lines.now in
    let spans = spans_in (g.P.Pattern.source c.args.pattern.now) text in
    (some-there text c.args.direction spans (range_of text c.args.from) c.in-Some.span c.len-stored.ensures.valid.is_text c.requires.ordered (offset-below text c.args.from.high c.requires.high) (sym c.in_ok-span_sought.ensures ∙ c.in-Some.is)).1
