use Rattle.std.proofs.Common.{ap, ◌∙◌, sym}
use Rattle.text_model.specs.Texts.{offset}
use Rattle.edit_ops.specs.Putting.{line_begin_of}
use Rattle.edit_ops.proofs.PuttingLemmas.{chosen, line_begin-at}
use Rattle.edit_ops.proofs.putting.place_before.Goals as goal

pub returns-clause-value : goal.returns-clause-value
returns-clause-value c =
    chosen c.args.whole (offset c.args.lines.now c.line_start.result) (line_begin_of c.args.lines.now (offset c.args.lines.now c.args.at)) (offset c.args.lines.now c.args.at) c.if-not-whole.false
    (ap (offset c.args.lines.now) c.line_start.ensures.value ∙ sym (line_begin-at c.args.lines.now c.args.at c.requires))
