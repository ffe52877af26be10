use Rattle.std.proofs.Common.{[], ap, sym, subst, ◌∙◌}
use Rattle.change_list.specs.Logs.{Logged}
use Rattle.list_shelf.proofs.CodeLemmas.{room-there, room-again}
use Rattle.list_archive.specs.Archives.{archive_carried, IsArchiveCarriable}
use Rattle.list_archive.proofs.NoteLemmas.{shelf-stands, again-carriable, one-fits, none-fits, kept-there, kept-again}
use Rattle.list_archive.proofs.archive.Archive.make_room.Goals as goal

pub returns-then-has_room-clause-shelf : goal.returns-then-has_room-clause-shelf
returns-then-has_room-clause-shelf c = room-there c.args.shelf.now (one-fits c.args.shelf.now (sym c.has_room.ensures ∙ c.if-has_room.true))

pub returns-then-has_room-clause-kept : goal.returns-then-has_room-clause-kept
returns-then-has_room-clause-kept c = kept-there c.args.shelf.now c.args.self.now (one-fits c.args.shelf.now (sym c.has_room.ensures ∙ c.if-has_room.true))

pub returns-then-has_room-clause-room : goal.returns-then-has_room-clause-room
returns-then-has_room-clause-room c = one-fits c.args.shelf.now (sym c.has_room.ensures ∙ c.if-has_room.true)

pub carry-requires : goal.carry-requires
carry-requires c = subst (λ (log : Logged). IsArchiveCarriable log [] c.args.self.now) (sym c.log.ensures) (again-carriable c.args.shelf.now c.args.self.now c.requires)

pub begin_again-requires : goal.begin_again-requires
begin_again-requires c = shelf-stands c.args.shelf.now c.args.self.now c.requires

pub returns-clause-shelf : goal.returns-clause-shelf
returns-clause-shelf c = c.begin_again.ensures.again ∙ room-again c.args.shelf.now (none-fits c.args.shelf.now (sym c.has_room.ensures ∙ c.if-has_room.false))

pub returns-clause-kept : goal.returns-clause-kept
returns-clause-kept c =
    c.carry.ensures
    ∙ ap (λ (log : Logged). archive_carried log [] c.args.self.now) c.log.ensures
    ∙ kept-again c.args.shelf.now c.args.self.now (none-fits c.args.shelf.now (sym c.has_room.ensures ∙ c.if-has_room.false))
