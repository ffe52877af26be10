use Rattle.key_rows.proofs.LeavingLemmas.{one-each}
use Rattle.key_rows.proofs.edits.erase.Goals as goal

pub edit_leaving-requires-clause-one_each : goal.edit_leaving-requires-clause-one_each
edit_leaving-requires-clause-one_each g c = one-each _ c.args.who c.args.world.now.flat c.lines.result.now c.sels.result.now c.in_ok-splices.splices.items c.as_slice.result.now c.sels.ensures.sels c.as_slice.ensures.value c.in_ok-splices.ensures.erases
