use Rattle.std.proofs.Common.{ap, ◌∙◌}
use Rattle.list_model.specs.Ranges.{only}
use Rattle.selection_set.specs.declared.sel.Sel.{Sel}
use Rattle.selection_set.specs.Inside.{range_of}
use Rattle.key_rows.proofs.PlaceLemmas.{newline-at}
use Rattle.key_rows.proofs.shapes.newline_of.Goals as goal

pub returns-clause-newline : goal.returns-clause-newline
returns-clause-newline c =
    ap (λ (s : Sel). range_of c.args.lines.now s) c.only.ensures
    ∙ ap only (newline-at c.args.lines.now c.args.at c.line_end.result c.requires c.line_end.ensures.line c.line_end.ensures.place c.line_end.ensures.last)
