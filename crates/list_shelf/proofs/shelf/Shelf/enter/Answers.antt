use Rattle.std.proofs.Common.{ap, ◌∙◌}
use Rattle.list_shelf.specs.Shelves.{trimmed_shelf}
use Rattle.list_shelf.proofs.CodeLemmas.{brought-can}
use Rattle.list_shelf.proofs.shelf.Shelf.enter.Goals as goal

pub trim-requires : goal.trim-requires
trim-requires c = brought-can c.args.holder c.args.self.now _ c.requires c.bring_up.ensures

pub returns : goal.returns
returns c = c.trim.ensures ∙ ap trimmed_shelf c.bring_up.ensures
