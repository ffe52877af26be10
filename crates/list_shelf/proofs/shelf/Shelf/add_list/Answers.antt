use Rattle.std.proofs.Common.{◌≡◌, true, false, List, ap, sym, ◌∙◌, arith}
use Rattle.std.proofs.lemmas.Bool.{lt-ltb, le-ltb}
use Rattle.tables.specs.Tables.{place_where}
use Rattle.list_shelf.specs.declared.rows.ShelfRow.{ShelfRow}
use Rattle.list_shelf.specs.Shelves.{Shelved, is_of, has_row}
use Rattle.list_shelf.proofs.CodeLemmas.{place-test, listed-there, listed-new}
use Rattle.list_shelf.proofs.shelf.Shelf.add_list.Goals as goal

pub returns-then-place-len-clause-ok : goal.returns-then-place-len-clause-ok
returns-then-place-len-clause-ok c =
    let test = place-test (is_of c.args.holder) c.self.inside.rows.items c.place.result c.len.result (c.place.ensures ∙ ap (place_where (is_of c.args.holder)) c.as_slice.ensures.value) (omega (arith, c.len.ensures, c.self.inside.rows.ok.0)) in
    let there : has_row c.args.holder c.args.self.now ≡ true = sym (test ∙ ap (has_row c.args.holder) c.self.view_is) ∙ lt-ltb c.place.result c.len.result c.if-place-len.true in
    listed-there c.args.holder c.args.sels c.args.corner c.args.self.now there

pub returns-clause-ok : goal.returns-clause-ok
returns-clause-ok c =
    let test = place-test (is_of c.args.holder) c.self.inside.rows.items c.place.result c.len.result (c.place.ensures ∙ ap (place_where (is_of c.args.holder)) c.as_slice.ensures.value) (omega (arith, c.len.ensures, c.self.inside.rows.ok.0)) in
    let none : has_row c.args.holder c.args.self.now ≡ false = sym (test ∙ ap (has_row c.args.holder) c.self.view_is) ∙ le-ltb c.place.result c.len.result c.if-place-len.false in
    ap (λ (rows : List ShelfRow). let x : Shelved = record { limit = c.self.inside.limit; log = c.self.inside.log; rows = rows } in x) c.in_ok-push.ensures.items
    ∙ listed-new c.args.holder c.args.sels c.args.corner c.stamp-now.result _ _ c.self.view_is c.stamp-now.ensures.value none
