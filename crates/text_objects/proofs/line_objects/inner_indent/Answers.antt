use Rattle.text_objects.specs.LineObjects.{indented_inside}
use Rattle.text_objects.proofs.RunLemmas.{on-own-line}
use Rattle.text_objects.proofs.line_objects.inner_indent.Goals as goal

pub returns : goal.returns
returns c = record { gives = on-own-line c.args.lines.now c.args.sel.now c.cursor.result c.indented_inside.result (indented_inside c.args.lines.now c.args.tabstop.columns) c.requires.inside c.cursor.ensures c.indented_inside.ensures }
