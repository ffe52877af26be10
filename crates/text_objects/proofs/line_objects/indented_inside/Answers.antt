use Rattle.std.proofs.Common.{Some, sym, ◌∙◌}
use Rattle.compact_chars.specs.Rows.{chars_of}
use Rattle.text_objects.proofs.LineRunLemmas.{inside-is, inside-ordered}
use Rattle.text_objects.proofs.line_objects.indented_inside.Goals as goal

pub whole_lines-requires-clause-ordered : goal.whole_lines-requires-clause-ordered
whole_lines-requires-clause-ordered c = inside-ordered c.args.lines.now c.args.line c.first_line-from.result c.line_behind-to.result c.line_behind-first.result c.first_line-behind.result (sym c.is_full.ensures ∙ c.if-not-is_full.false) c.first_line-from.ensures.before c.line_behind-to.ensures.behind c.requires.there c.line_behind-first.ensures.value c.first_line-behind.ensures.value

pub returns : goal.returns
returns c = inside-is c.args.lines.now c.args.tabstop.columns c.args.line c.indentation-least.result c.first_line-from.result c.line_behind-to.result c.line_behind-first.result c.first_line-behind.result (chars_of c.line.result) (Some c.whole_lines.result) (sym c.is_full.ensures ∙ c.if-not-is_full.false) c.line.ensures.value c.indentation-least.ensures c.first_line-from.ensures.value c.line_behind-to.ensures.value c.line_behind-first.ensures.value c.first_line-behind.ensures.value c.whole_lines.ensures
