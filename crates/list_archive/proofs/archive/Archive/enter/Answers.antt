use Rattle.std.proofs.Common.{ap, ◌∙◌}
use Rattle.list_archive.specs.Archives.{trimmed_with}
use Rattle.list_archive.proofs.NoteLemmas.{shelf-stands, brought-with}
use Rattle.list_archive.proofs.archive.Archive.enter.Goals as goal

pub bring_up-requires : goal.bring_up-requires
bring_up-requires c = shelf-stands c.args.shelf.now c.args.self.now c.requires

pub trim-requires : goal.trim-requires
trim-requires c = brought-with c.args.holder c.args.shelf.now c.bring_up.new.self c.args.self.now c.bring_up.ensures c.requires

pub returns : goal.returns
returns c = c.trim.ensures ∙ ap (trimmed_with c.args.self.now) c.bring_up.ensures
