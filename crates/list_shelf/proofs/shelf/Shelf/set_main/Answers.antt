use Rattle.std.proofs.Common.{◌<◌, length, ap, sym, subst, ◌∙◌, arith}
use Rattle.tables.specs.Tables.{place_where}
use Rattle.list_shelf.specs.declared.rows.ShelfRow.{ShelfRow}
use Rattle.list_shelf.specs.Shelves.{is_of}
use Rattle.list_shelf.proofs.CodeLemmas.{shelf-there, shelf-read, shelf-set}
use Rattle.list_shelf.proofs.StandLemmas.{main_lag}
use Rattle.list_shelf.proofs.shelf.Shelf.set_main.Goals as goal

pub index_mut-row-requires : goal.index_mut-row-requires
index_mut-row-requires c =
    let inside : c.place-at.result < length c.self.inside.rows.items = shelf-there c.args.holder _ _ c.place-at.result c.self.view_is (c.place-at.ensures ∙ ap (place_where (is_of c.args.holder)) c.as_slice.ensures.value) c.requires.list in
    omega (arith, inside, c.self.inside.rows.ok.0)

pub set_main-requires : goal.set_main-requires
set_main-requires c =
    subst (λ (r : ShelfRow). c.args.n < length r.lag.sels.list)
    (sym (shelf-read c.args.holder _ _ c.place-at.result c.index_mut-row.result.now c.self.view_is (c.place-at.ensures ∙ ap (place_where (is_of c.args.holder)) c.as_slice.ensures.value) c.requires.list c.index_mut-row.ensures.value))
    c.requires.there

pub returns : goal.returns
returns c =
    shelf-set c.args.holder (main_lag c.args.n) _ _ c.place-at.result c.index_mut-row.result.now _ c.self.view_is
    (c.place-at.ensures ∙ ap (place_where (is_of c.args.holder)) c.as_slice.ensures.value) c.requires.list c.index_mut-row.ensures.value
    (ap (λ s. let x : ShelfRow = record { holder = c.index_mut-row.result.now.holder; lag = record { stamp = c.index_mut-row.result.now.lag.stamp; sels = s }; corner = c.index_mut-row.result.now.corner } in x) c.set_main.ensures)
