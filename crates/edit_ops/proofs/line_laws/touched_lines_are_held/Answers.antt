use Rattle.edit_ops.proofs.TouchLemmas.{touched-held, held-touched}
use Rattle.edit_ops.proofs.line_laws.touched_lines_are_held.Goals as goal

pub returns : goal.returns
returns c = record { held = touched-held; touched = held-touched }
