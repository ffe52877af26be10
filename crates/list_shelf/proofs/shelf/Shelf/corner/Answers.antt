use Rattle.std.proofs.Common.{◌<◌, length, ap, ◌∙◌, arith}
use Rattle.tables.specs.Tables.{place_where}
use Rattle.list_shelf.specs.declared.rows.ShelfRow.{ShelfRow}
use Rattle.list_shelf.specs.Shelves.{is_of}
use Rattle.list_shelf.proofs.CodeLemmas.{shelf-there, shelf-read}
use Rattle.list_shelf.proofs.shelf.Shelf.corner.Goals as goal

pub index-row-requires : goal.index-row-requires
index-row-requires c =
    let inside : c.place.result < length c.self.inside.rows.items = shelf-there c.args.holder _ _ c.place.result c.self.view_is (c.place.ensures ∙ ap (place_where (is_of c.args.holder)) c.as_slice.ensures.value) c.requires in
    omega (arith, inside, c.self.inside.rows.ok.0)

pub returns : goal.returns
returns c =
    ap (λ (r : ShelfRow). r.corner)
    (shelf-read c.args.holder _ _ c.place.result c.index-row.result.now c.self.view_is (c.place.ensures ∙ ap (place_where (is_of c.args.holder)) c.as_slice.ensures.value) c.requires c.index-row.ensures)
