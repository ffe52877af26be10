use Rattle.std.proofs.Common.{List, map, ap, ap₂, subst, sym, ◌∙◌}
use Rattle.change_list.specs.Logs.{Logged}
use Rattle.list_shelf.specs.declared.rows.ShelfRow.{ShelfRow}
use Rattle.list_shelf.specs.Lagging.{gone_through}
use Rattle.list_shelf.specs.Shelves.{Shelved, with_lag, all_moved, AreCatchable, CanFollow}
use Rattle.list_shelf.proofs.CodeLemmas.{follow-stands, renewed-catchable}
use Rattle.list_shelf.proofs.shelf.Shelf.move_through.Goals as goal

pub renew_all-requires : goal.renew_all-requires
renew_all-requires c = follow-stands _ c.args.shifts.now (subst (λ (s : Shelved). CanFollow s c.args.shifts.now) (sym c.self.view_is) c.requires)

pub move_all-requires : goal.move_all-requires
move_all-requires c =
    let can = subst (λ (s : Shelved). CanFollow s c.args.shifts.now) (sym c.self.view_is) c.requires in
    subst (AreCatchable c.args.shifts.now) (sym c.renew_all.ensures) (renewed-catchable can.text can.changes c.args.shifts.now c.self.inside.log c.self.inside.rows.items can.shifts_are can.stands)

pub returns : goal.returns
returns c =
    ap₂ (λ (log : Logged) (rows : List ShelfRow). let x : Shelved = record { limit = c.self.inside.limit; log = log; rows = rows } in x) c.restart.ensures (c.move_all.ensures ∙ ap (map (with_lag (gone_through c.args.shifts.now))) c.renew_all.ensures)
    ∙ ap (all_moved c.args.shifts.now) c.self.view_is
