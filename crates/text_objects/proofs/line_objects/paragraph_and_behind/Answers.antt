use Rattle.std.proofs.Common.{Some, sym, ◌∙◌}
use Rattle.text_objects.proofs.LineRunLemmas.{and-behind-is}
use Rattle.text_objects.proofs.line_objects.paragraph_and_behind.Goals as goal

pub returns : goal.returns
returns c = and-behind-is c.args.lines.now c.args.line c.first_line-from.result c.line_behind-to.result c.line_behind-behind.result (Some c.whole_lines.result) (sym c.is_full.ensures ∙ c.if-not-is_full.false) c.first_line-from.ensures.value c.line_behind-to.ensures.value c.line_behind-behind.ensures.value c.whole_lines.ensures
