use Rattle.text_objects.specs.LineObjects.{paragraph_and_behind}
use Rattle.text_objects.proofs.RunLemmas.{on-own-line}
use Rattle.text_objects.proofs.line_objects.around_paragraph.Goals as goal

pub returns : goal.returns
returns c = record { gives = on-own-line c.args.lines.now c.args.sel.now c.cursor.result c.paragraph_and_behind.result (paragraph_and_behind c.args.lines.now) c.requires c.cursor.ensures c.paragraph_and_behind.ensures }
