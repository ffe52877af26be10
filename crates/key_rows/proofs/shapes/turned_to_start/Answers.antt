use Rattle.key_rows.proofs.TurnedLemmas.{turned-range}
use Rattle.key_rows.proofs.shapes.turned_to_start.Goals as goal

pub returns-clause-turns : goal.returns-clause-turns
returns-clause-turns c text h = turned-range text c.args.sel c.is_at_most.result h c.is_at_most.ensures
