use Rattle.std.proofs.Common.{ap}
use Rattle.list_shelf.specs.declared.rows.ShelfRow.{ShelfRow}
use Rattle.list_shelf.proofs.rows.bring_row_up.Goals as goal

pub returns : goal.returns
returns c = ap (λ l. let x : ShelfRow = record { holder = c.args.row.now.holder; lag = l; corner = c.args.row.now.corner } in x) c.catch_up.ensures
