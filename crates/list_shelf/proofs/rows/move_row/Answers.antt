use Rattle.std.proofs.Common.{ap}
use Rattle.list_shelf.specs.declared.rows.ShelfRow.{ShelfRow}
use Rattle.list_shelf.proofs.rows.move_row.Goals as goal

pub returns : goal.returns
returns c = ap (λ l. let x : ShelfRow = record { holder = c.args.row.now.holder; lag = l; corner = c.args.row.now.corner } in x) c.go_through.ensures
