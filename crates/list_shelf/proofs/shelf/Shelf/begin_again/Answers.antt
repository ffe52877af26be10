use Rattle.std.proofs.Common.{◌<◌, List, ap, ap₂, subst, sym, ◌∙◌}
use Rattle.change_list.specs.Logs.{Logged, stamp_of}
use Rattle.list_shelf.specs.declared.rows.ShelfRow.{ShelfRow}
use Rattle.list_shelf.specs.Shelves.{Shelved, begun_again, CanStand}
use Rattle.list_shelf.proofs.shelf.Shelf.begin_again.Goals as goal

pub renew_all-requires : goal.renew_all-requires
renew_all-requires c = subst (λ (s : Shelved). CanStand s) (sym c.self.view_is) c.requires

pub returns-clause-again : goal.returns-clause-again
returns-clause-again c =
    ap₂ (λ (log : Logged) (rows : List ShelfRow). let x : Shelved = record { limit = c.self.inside.limit; log = log; rows = rows } in x) c.restart.ensures c.renew_all.ensures
    ∙ ap begun_again c.self.view_is

pub returns-clause-room : goal.returns-clause-room
returns-clause-room c = subst (λ (log : Logged). stamp_of log < c.self.inside.limit) (sym c.restart.ensures) c.self.invariant.0
