use Rattle.std.proofs.Common.{◌≡◌, ◌+◌, List, ◌∷◌, drop, sym, ap, ◌∙◌}
use Rattle.std.proofs.lemmas.List.{drop_more, drop_all}
use Rattle.list_shelf.specs.declared.rows.ShelfRow.{ShelfRow}
use Rattle.list_shelf.specs.Shelves.{least}
use Rattle.list_shelf.proofs.rows.least.Goals as goal

pub loop-row-preserved : goal.loop-row-preserved
loop-row-preserved c =
    let rest : List ShelfRow = drop (c.loop-row.row-index + 1) c.args.rows.now in
    let next : drop c.loop-row.row-index c.args.rows.now ≡ c.row-item.result ∷ rest = drop_more c.args.rows.now c.loop-row.row-index c.row-item.result c.loop-row-test.true ∙ ap (λ r. r ∷ rest) (sym c.row-item.is) in
    ap (λ n. least n rest) c.lesser-least.ensures ∙ sym (ap (least c.loop-row.least) next) ∙ c.loop-row.invariant

pub returns : goal.returns
returns c = sym (ap (least c.loop-row.least) (drop_all c.loop-row.row-index c.args.rows.now c.loop-row-test.false)) ∙ c.loop-row.invariant
