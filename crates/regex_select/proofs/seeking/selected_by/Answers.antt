use Rattle.text_model.specs.Texts.{offset}
use Rattle.regex_select.specs.Walks.{own_chars}
use Rattle.regex_select.proofs.SpanLemmas.{selected-whole}
use Rattle.regex_select.proofs.seeking.selected_by.Goals as goal

pub returns-clause-range : goal.returns-clause-range
returns-clause-range c =
    let text = c.args.lines.now in
    selected-whole text (own_chars text c.whole-sel.result) (offset text c.whole-sel.result.low) c.walk_to-first.result.passed c.walk_to-end.result.passed c.args.span _ c.whole-sel.ensures.chars c.whole-sel.ensures.low c.walk_to-first.ensures.passed c.walk_to-end.ensures.passed c.found.ensures.range
