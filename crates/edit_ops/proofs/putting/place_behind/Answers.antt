use Rattle.std.proofs.Common.{◌+◌, ap, ◌∙◌, sym}
use Rattle.text_model.specs.Texts.{offset}
use Rattle.edit_ops.specs.Putting.{line_behind}
use Rattle.edit_ops.proofs.PuttingLemmas.{chosen, line_behind-at}
use Rattle.edit_ops.proofs.putting.place_behind.Goals as goal

pub returns-clause-value : goal.returns-clause-value
returns-clause-value c =
    chosen c.args.whole (offset c.args.lines.now c.next_line.result) (line_behind c.args.lines.now (offset c.args.lines.now c.args.at)) (offset c.args.lines.now c.args.at + 1) c.if-not-whole.false
    (ap (offset c.args.lines.now) c.next_line.ensures.value ∙ sym (line_behind-at c.args.lines.now c.args.at c.requires))
