use Rattle.std.proofs.Common.{ap, ◌∙◌, arith}
use Rattle.tables.specs.Tables.{place_where}
use Rattle.list_shelf.specs.Shelves.{is_of, has_row}
use Rattle.list_shelf.proofs.CodeLemmas.{place-test}
use Rattle.list_shelf.proofs.shelf.Shelf.has_list.Goals as goal

pub returns : goal.returns
returns c =
    place-test (is_of c.args.holder) c.self.inside.rows.items c.place.result c.len.result (c.place.ensures ∙ ap (place_where (is_of c.args.holder)) c.as_slice.ensures.value) (omega (arith, c.len.ensures, c.self.inside.rows.ok.0))
    ∙ ap (has_row c.args.holder) c.self.view_is
