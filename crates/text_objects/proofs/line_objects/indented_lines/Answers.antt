use Rattle.std.proofs.Common.{Some, sym, ◌∙◌}
use Rattle.compact_chars.specs.Rows.{chars_of}
use Rattle.text_objects.proofs.LineRunLemmas.{indented-is}
use Rattle.text_objects.proofs.line_objects.indented_lines.Goals as goal

pub returns : goal.returns
returns c = indented-is c.args.lines.now c.args.tabstop.columns c.args.line c.indentation-least.result c.first_line-from.result c.line_behind-to.result (chars_of c.line.result) (Some c.whole_lines.result) (sym c.is_full.ensures ∙ c.if-not-is_full.false) c.line.ensures.value c.indentation-least.ensures c.first_line-from.ensures.value c.line_behind-to.ensures.value c.whole_lines.ensures
