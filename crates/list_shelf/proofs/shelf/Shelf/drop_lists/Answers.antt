use Rattle.std.proofs.Common.{not, List, ap, ◌∙◌, rules}
use Rattle.std.proofs.lemmas.Fn.{filter_same}
use Rattle.list_shelf.specs.declared.rows.ShelfRow.{ShelfRow}
use Rattle.list_shelf.specs.Shelves.{Shelved, is_of, unlisted}
use Rattle.list_shelf.proofs.shelf.Shelf.drop_lists.Goals as goal

pub returns : goal.returns
returns c =
    ap (λ (rows : List ShelfRow). let x : Shelved = record { limit = c.self.inside.limit; log = c.self.inside.log; rows = rows } in x)
    (filter_same _ (λ (row : ShelfRow). not (is_of c.args.holder row)) _ (λ x b f' k. search rules) _ _ c.retain.ensures.filtered)
    ∙ ap (unlisted c.args.holder) c.self.view_is
