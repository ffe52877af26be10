use Rattle.std.proofs.Common.{List, ap, subst, sym, ◌∙◌}
use Rattle.list_shelf.specs.declared.rows.ShelfRow.{ShelfRow}
use Rattle.list_shelf.specs.Shelves.{Shelved, brought_up, CanStand}
use Rattle.list_shelf.proofs.shelf.Shelf.bring_up.Goals as goal

pub bring_up-requires : goal.bring_up-requires
bring_up-requires c = subst (λ (s : Shelved). CanStand s) (sym c.self.view_is) c.requires

pub returns : goal.returns
returns c =
    ap (λ (rows : List ShelfRow). let x : Shelved = record { limit = c.self.inside.limit; log = c.self.inside.log; rows = rows } in x) c.bring_up.ensures
    ∙ ap (brought_up c.args.holder) c.self.view_is
