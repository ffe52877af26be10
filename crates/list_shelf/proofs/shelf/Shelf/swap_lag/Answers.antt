use Rattle.std.proofs.Common.{◌≡◌, ◌<◌, length, ap, ◌∙◌, arith}
use Rattle.tables.specs.Tables.{place_where}
use Rattle.list_shelf.specs.declared.lag.Lag.{Lag}
use Rattle.list_shelf.specs.declared.rows.ShelfRow.{ShelfRow}
use Rattle.list_shelf.specs.Shelves.{is_of}
use Rattle.list_shelf.proofs.CodeLemmas.{shelf-there, shelf-read, shelf-set}
use Rattle.list_shelf.proofs.shelf.Shelf.swap_lag.Goals as goal

pub index_mut-row-requires : goal.index_mut-row-requires
index_mut-row-requires c =
    let inside : c.place-at.result < length c.self.inside.rows.items = shelf-there c.args.holder _ _ c.place-at.result c.self.view_is (c.place-at.ensures ∙ ap (place_where (is_of c.args.holder)) c.as_slice.ensures.value) c.requires in
    omega (arith, inside, c.self.inside.rows.ok.0)

pub returns : goal.returns
returns c = record {
  shelf =
      shelf-set c.args.holder (λ (lag : Lag). c.args.lag.now) _ _ c.place-at.result c.index_mut-row.result.now _ c.self.view_is
      (c.place-at.ensures ∙ ap (place_where (is_of c.args.holder)) c.as_slice.ensures.value) c.requires c.index_mut-row.ensures.value
      (ap (λ l. let x : ShelfRow = record { holder = c.index_mut-row.result.now.holder; lag = l; corner = c.index_mut-row.result.now.corner } in x) c.swap.ensures.x_after);
  lag =
      c.swap.ensures.y_after
      ∙ ap (λ (row : ShelfRow). row.lag)
      (shelf-read c.args.holder _ _ c.place-at.result c.index_mut-row.result.now c.self.view_is (c.place-at.ensures ∙ ap (place_where (is_of c.args.holder)) c.as_slice.ensures.value) c.requires c.index_mut-row.ensures.value);
}
