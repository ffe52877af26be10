use Rattle.std.proofs.Common.{length, ap, ◌∙◌, arith}
use Rattle.text_model.specs.Texts.{offset}
use Rattle.text_model.proofs.PlaceLemmas.{offset-next_line}
use Rattle.edit_ops.proofs.places.behind.Goals as goal

pub returns-clause-next : goal.returns-clause-next
returns-clause-next c =
    ap (offset c.args.lines.now) c.next_line.ensures.value ∙ offset-next_line c.args.lines.now c.args.at.line c.args.at.column c.requires.on_line (omega (arith, ap length c.line.ensures.value, c.len.ensures, c.requires.in_line))
