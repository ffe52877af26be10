use Rattle.std.proofs.Common.{◌≡◌, true, is_err, ap, subst, sym, ◌∙◌}
use Rattle.list_shelf.specs.Shelves.{Shelved, room_made, all_moved, CanFollow}
use Rattle.list_shelf.proofs.FollowLemmas.{moved-room}
use Rattle.list_shelf.proofs.CodeLemmas.{err-is, room-can, follow-stands}
use Rattle.list_shelf.proofs.NoteLemmas.{shelf_of}
use Rattle.list_shelf.proofs.shelf.Shelf.note_first.Goals as goal

pub make_room-requires : goal.make_room-requires
make_room-requires c = follow-stands c.args.self.now c.args.shifts.now c.requires

pub move_through-requires : goal.move_through-requires
move_through-requires c =
    let wanting : is_err c.push.result ≡ true = sym c.is_err.ensures.value ∙ c.if-is_err.true in
    let same : shelf_of c.self.inside.limit c.push.new.self c.self.inside.rows.items ≡ room_made c.args.self.now =
    ap (λ log. shelf_of c.self.inside.limit log c.self.inside.rows.items) (err-is c.push.result wanting c.push.ensures.err) ∙ c.self.view_is ∙ c.make_room.ensures in
    subst (λ (s : Shelved). CanFollow s c.args.shifts.now) (sym same) (room-can c.args.self.now c.args.shifts.now c.requires)

pub returns-then-is_err-clause-err : goal.returns-then-is_err-clause-err
returns-then-is_err-clause-err c =
    let wanting : is_err c.push.result ≡ true = sym c.is_err.ensures.value ∙ c.if-is_err.true in
    let same : shelf_of c.self.inside.limit c.push.new.self c.self.inside.rows.items ≡ room_made c.args.self.now =
    ap (λ log. shelf_of c.self.inside.limit log c.self.inside.rows.items) (err-is c.push.result wanting c.push.ensures.err) ∙ c.self.view_is ∙ c.make_room.ensures in
    c.move_through.ensures ∙ ap (all_moved c.args.shifts.now) same ∙ moved-room c.requires.text c.args.shifts.now c.args.self.now c.requires.stands
