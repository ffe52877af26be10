use Rattle.std.proofs.Common.{◌<◌, length, refl, ap, ◌∙◌, arith}
use Rattle.tables.specs.Tables.{place_where}
use Rattle.list_shelf.specs.Shelves.{is_of}
use Rattle.list_shelf.proofs.CodeLemmas.{shelf-there, shelf-corner}
use Rattle.list_shelf.proofs.shelf.Shelf.set_corner.Goals as goal

pub index_mut-row-requires : goal.index_mut-row-requires
index_mut-row-requires c =
    let inside : c.place-at.result < length c.self.inside.rows.items = shelf-there c.args.holder _ _ c.place-at.result c.self.view_is (c.place-at.ensures ∙ ap (place_where (is_of c.args.holder)) c.as_slice.ensures.value) c.requires in
    omega (arith, inside, c.self.inside.rows.ok.0)

pub returns : goal.returns
returns c =
    shelf-corner c.args.holder c.args.corner _ _ c.place-at.result c.index_mut-row.result.now _ c.self.view_is
    (c.place-at.ensures ∙ ap (place_where (is_of c.args.holder)) c.as_slice.ensures.value) c.requires c.index_mut-row.ensures.value refl
