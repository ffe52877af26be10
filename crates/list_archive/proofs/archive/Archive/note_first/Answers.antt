use Rattle.std.proofs.Common.{◌≡◌, true, is_err, sym, subst, ◌∙◌}
use Rattle.change_list.specs.Logs.{Logged}
use Rattle.list_shelf.specs.Shelves.{room_made}
use Rattle.list_shelf.proofs.CodeLemmas.{err-is}
use Rattle.list_archive.specs.Archives.{IsArchiveCarriable, CanFollowWith}
use Rattle.list_archive.proofs.NoteLemmas.{with-stands, shelf-follows, archive-carriable, wanting-can, wanting-shelf, wanting-kept}
use Rattle.list_archive.proofs.archive.Archive.note_first.Goals as goal

pub make_room-requires : goal.make_room-requires
make_room-requires c = with-stands c.args.shelf.now c.args.self.now c.args.shifts.now c.requires

pub carry-requires : goal.carry-requires
carry-requires c =
    let wanting : is_err c.push.result ≡ true = sym c.is_err.ensures.value ∙ c.if-is_err.true in
    let same : c.push.new.self ≡ room_made c.args.shelf.now = err-is c.push.result wanting c.push.ensures.err ∙ c.make_room.ensures.shelf in
    let can : CanFollowWith c.push.new.self c.make_room.new.self c.args.shifts.now = wanting-can c.args.shelf.now c.push.new.self c.args.self.now c.make_room.new.self c.args.shifts.now same c.make_room.ensures.kept c.requires in
    subst (λ (log : Logged). IsArchiveCarriable log c.args.shifts.now c.make_room.new.self) (sym c.log.ensures) (archive-carriable c.push.new.self c.make_room.new.self c.args.shifts.now can)

pub move_through-requires : goal.move_through-requires
move_through-requires c =
    let wanting : is_err c.push.result ≡ true = sym c.is_err.ensures.value ∙ c.if-is_err.true in
    let same : c.push.new.self ≡ room_made c.args.shelf.now = err-is c.push.result wanting c.push.ensures.err ∙ c.make_room.ensures.shelf in
    shelf-follows c.push.new.self c.make_room.new.self c.args.shifts.now (wanting-can c.args.shelf.now c.push.new.self c.args.self.now c.make_room.new.self c.args.shifts.now same c.make_room.ensures.kept c.requires)

pub returns-then-is_err-clause-shelf_err : goal.returns-then-is_err-clause-shelf_err
returns-then-is_err-clause-shelf_err c =
    let wanting : is_err c.push.result ≡ true = sym c.is_err.ensures.value ∙ c.if-is_err.true in
    let same : c.push.new.self ≡ room_made c.args.shelf.now = err-is c.push.result wanting c.push.ensures.err ∙ c.make_room.ensures.shelf in
    wanting-shelf c.args.shelf.now c.push.new.self c.move_through.new.self c.args.self.now c.args.shifts.now c.move_through.ensures same c.requires

pub returns-then-is_err-clause-kept_err : goal.returns-then-is_err-clause-kept_err
returns-then-is_err-clause-kept_err c =
    let wanting : is_err c.push.result ≡ true = sym c.is_err.ensures.value ∙ c.if-is_err.true in
    let same : c.push.new.self ≡ room_made c.args.shelf.now = err-is c.push.result wanting c.push.ensures.err ∙ c.make_room.ensures.shelf in
    wanting-kept c.args.shelf.now c.push.new.self c.args.self.now c.make_room.new.self c.carry.new.self _ c.args.shifts.now c.carry.ensures c.log.ensures same c.make_room.ensures.kept c.requires
