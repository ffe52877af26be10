use Rattle.std.proofs.Common.{◌≡◌, ◌<◌, length, ap, ◌∙◌, arith}
use Rattle.tables.specs.Tables.{place_where}
use Rattle.change_list.specs.Logs.{stamp_of}
use Rattle.list_shelf.specs.declared.lag.Lag.{Lag}
use Rattle.list_shelf.specs.declared.rows.ShelfRow.{ShelfRow}
use Rattle.list_shelf.specs.Shelves.{Shelved, is_of}
use Rattle.list_shelf.proofs.CodeLemmas.{shelf-there, shelf-set}
use Rattle.list_shelf.proofs.shelf.Shelf.set_sels.Goals as goal

pub index_mut-row-requires : goal.index_mut-row-requires
index_mut-row-requires c =
    let inside : c.place-at.result < length c.self.inside.rows.items = shelf-there c.args.holder _ _ c.place-at.result c.self.view_is (c.place-at.ensures ∙ ap (place_where (is_of c.args.holder)) c.as_slice.ensures.value) c.requires in
    omega (arith, inside, c.self.inside.rows.ok.0)

pub returns : goal.returns
returns c =
    let now : c.stamp-now.result ≡ stamp_of c.args.self.now.log = c.stamp-now.ensures.value ∙ ap (λ (s : Shelved). stamp_of s.log) c.self.view_is in
    shelf-set c.args.holder (λ (lag : Lag). let x : Lag = record { stamp = stamp_of c.args.self.now.log; sels = c.args.sels } in x) _ _ c.place-at.result c.index_mut-row.result.now _ c.self.view_is
    (c.place-at.ensures ∙ ap (place_where (is_of c.args.holder)) c.as_slice.ensures.value) c.requires c.index_mut-row.ensures.value
    (ap (λ n. let x : ShelfRow = record { holder = c.index_mut-row.result.now.holder; lag = record { stamp = n; sels = c.args.sels }; corner = c.index_mut-row.result.now.corner } in x) now)
