use Rattle.std.proofs.Common.{◌≡◌, ◌<◌, ◌≤◌, length, ap, sym, subst, ◌∙◌, arith}
use Rattle.tables.specs.Tables.{place_where}
use Rattle.list_shelf.specs.declared.rows.ShelfRow.{ShelfRow}
use Rattle.list_shelf.specs.Lagging.{seen_by}
use Rattle.list_shelf.specs.Shelves.{Shelved, is_of, row_of, CanStand}
use Rattle.list_shelf.proofs.CodeLemmas.{shelf-there, shelf-read, row-lags, if-ok}
use Rattle.list_shelf.proofs.shelf.Shelf.copy_of.Goals as goal

pub index-row-requires : goal.index-row-requires
index-row-requires c =
    let inside : c.place.result < length c.self.inside.rows.items = shelf-there c.args.holder _ _ c.place.result c.self.view_is (c.place.ensures ∙ ap (place_where (is_of c.args.holder)) c.as_slice.ensures.value) c.requires.list in
    omega (arith, inside, c.self.inside.rows.ok.0)

pub copy_up-requires : goal.copy_up-requires
copy_up-requires c =
    let inside : c.place.result < length c.self.inside.rows.items = shelf-there c.args.holder _ _ c.place.result c.self.view_is (c.place.ensures ∙ ap (place_where (is_of c.args.holder)) c.as_slice.ensures.value) c.requires.list in
    row-lags c.self.inside.log c.self.inside.rows.items c.place.result c.index-row.result.now (subst (λ (s : Shelved). CanStand s) (sym c.self.view_is) c.requires.can) inside c.index-row.ensures

pub returns-clause-ok : goal.returns-clause-ok
returns-clause-ok c =
    if-ok c.copy_up.result c.copy_up.ensures.ok (λ sels e.
    e
    ∙ ap (λ (r : ShelfRow). seen_by c.self.inside.log r.lag) (shelf-read c.args.holder _ _ c.place.result c.index-row.result.now c.self.view_is (c.place.ensures ∙ ap (place_where (is_of c.args.holder)) c.as_slice.ensures.value) c.requires.list c.index-row.ensures)
    ∙ ap (λ (s : Shelved). seen_by s.log (row_of c.args.holder c.args.self.now).lag) c.self.view_is)

pub returns-clause-few : goal.returns-clause-few
returns-clause-few c =
    let read : c.index-row.result.now ≡ row_of c.args.holder c.args.self.now = shelf-read c.args.holder _ _ c.place.result c.index-row.result.now c.self.view_is (c.place.ensures ∙ ap (place_where (is_of c.args.holder)) c.as_slice.ensures.value) c.requires.list c.index-row.ensures in
    λ few. c.copy_up.ensures.few (subst (λ (r : ShelfRow). length r.lag.sels.list ≤ 4) (sym read) few)
