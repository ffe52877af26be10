use Rattle.std.proofs.Common.{ap, ◌∙◌}
use Rattle.kak_text.specs.Cells.{display_column}
use Rattle.edit_ops.proofs.AligningLemmas.{column-at}
use Rattle.edit_ops.proofs.aligning.column_of.Goals as goal

pub returns : goal.returns
returns c =
    c.cell_of.ensures.value ∙ ap (λ line. display_column line c.cursor-at.result.column c.args.tabstop.columns) c.line.ensures.value
    ∙ column-at c.args.lines.now c.args.sel c.cursor-at.result c.args.tabstop.columns c.requires.inside c.cursor-at.ensures
