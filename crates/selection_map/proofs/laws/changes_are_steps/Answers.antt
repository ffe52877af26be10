use Rattle.selection_map.proofs.LawLemmas.{changes-lead, changes-shifts, changes-last, changes-rule}
use Rattle.selection_map.proofs.laws.changes_are_steps.Goals as goal

pub returns : goal.returns
returns c = record { lead = changes-lead; shifts = changes-shifts; last_text = changes-last; rule = changes-rule }
