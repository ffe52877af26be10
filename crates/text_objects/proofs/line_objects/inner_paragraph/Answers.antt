use Rattle.text_objects.specs.LineObjects.{paragraph}
use Rattle.text_objects.proofs.RunLemmas.{on-own-line}
use Rattle.text_objects.proofs.line_objects.inner_paragraph.Goals as goal

pub returns : goal.returns
returns c = record { gives = on-own-line c.args.lines.now c.args.sel.now c.cursor.result c.paragraph.result (paragraph c.args.lines.now) c.requires c.cursor.ensures c.paragraph.ensures }
