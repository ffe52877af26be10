use Rattle.text_objects.specs.LineObjects.{indented_lines}
use Rattle.text_objects.proofs.RunLemmas.{on-own-line}
use Rattle.text_objects.proofs.line_objects.around_indent.Goals as goal

pub returns : goal.returns
returns c = record { gives = on-own-line c.args.lines.now c.args.sel.now c.cursor.result c.indented_lines.result (indented_lines c.args.lines.now c.args.tabstop.columns) c.requires.inside c.cursor.ensures c.indented_lines.ensures }
