use Rattle.std.proofs.Common.{ap, ◌∙◌}
use Rattle.selection_texts.specs.Telling.{column_told}
use Rattle.selection_texts.proofs.ColumnLemmas.{place-at}
use Rattle.selection_texts.proofs.telling.place_told.Goals as goal

pub returns : goal.returns
returns c =
    place-at c.args.columns c.args.lines.now c.args.at c.column_told-column.result c.requires
    (c.column_told-column.ensures.value ∙ ap (λ line. column_told c.args.columns line c.args.at.column) c.line.ensures.value)
