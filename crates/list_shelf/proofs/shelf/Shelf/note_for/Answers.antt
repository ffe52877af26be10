use Rattle.std.proofs.Common.{ap, ◌∙◌}
use Rattle.list_shelf.specs.Shelves.{entered}
use Rattle.list_shelf.proofs.CodeLemmas.{noted-can, on-ok, on-err}
use Rattle.list_shelf.proofs.shelf.Shelf.note_for.Goals as goal

pub enter-requires : goal.enter-requires
enter-requires c = noted-can c.note-noted.result c.args.self.now _ c.args.shifts.now c.requires c.note-noted.ensures.ok c.note-noted.ensures.err

pub returns-clause-ok : goal.returns-clause-ok
returns-clause-ok c = on-ok c.note-noted.result c.note-noted.ensures.ok (λ e. c.enter.ensures ∙ ap (entered c.args.holder) e)

pub returns-clause-err : goal.returns-clause-err
returns-clause-err c = on-err c.note-noted.result c.note-noted.ensures.err (λ e. c.enter.ensures ∙ ap (entered c.args.holder) e)
