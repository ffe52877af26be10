use Rattle.std.proofs.Common.{◌<◌, ◌≤◌, List, ap, ap₂, subst, sym, ◌∙◌, arith}
use Rattle.change_list.specs.Logs.{Logged, stamp_of}
use Rattle.list_shelf.specs.declared.rows.ShelfRow.{ShelfRow}
use Rattle.list_shelf.specs.Shelves.{Shelved, begun_again, CanStand}
use Rattle.list_shelf.proofs.CodeLemmas.{room-there, room-again}
use Rattle.list_shelf.proofs.shelf.Shelf.make_room.Goals as goal

pub returns-then-stamp-self : goal.returns-then-stamp-self
returns-then-stamp-self c =
    room-there c.args.self.now (subst (λ (s : Shelved). stamp_of s.log < s.limit) c.self.view_is (omega (arith, c.if-stamp-self.true, c.stamp.ensures.value)))

pub renew_all-requires : goal.renew_all-requires
renew_all-requires c = subst (λ (s : Shelved). CanStand s) (sym c.self.view_is) c.requires

pub returns : goal.returns
returns c =
    let again : c.args.self.now.limit ≤ stamp_of c.args.self.now.log = subst (λ (s : Shelved). s.limit ≤ stamp_of s.log) c.self.view_is (omega (arith, c.if-stamp-self.false, c.stamp.ensures.value)) in
    ap₂ (λ (log : Logged) (rows : List ShelfRow). let x : Shelved = record { limit = c.self.inside.limit; log = log; rows = rows } in x) c.restart.ensures c.renew_all.ensures
    ∙ ap begun_again c.self.view_is
    ∙ room-again c.args.self.now again
