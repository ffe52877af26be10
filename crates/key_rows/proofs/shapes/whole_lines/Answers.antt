use Rattle.compact_chars.specs.Rows.{chars_of}
use Rattle.key_rows.proofs.ShapeLemmas.{whole_lines-range}
use Rattle.key_rows.proofs.shapes.whole_lines.Goals as goal

pub returns-clause-lines : goal.returns-clause-lines
returns-clause-lines c = rw c.len-end.ensures (whole_lines-range c.args.lines.now c.args.sel (chars_of c.line.result) c.requires c.line.ensures.value)
