use Rattle.selection_map.proofs.StepLemmas.{shifts-more, eager_by-append, changes-catchable, changes-caught}
use Rattle.selection_map.proofs.laws.lists_catch_up.Goals as goal

pub returns : goal.returns
returns c = record { one_more = shifts-more; in_parts = eager_by-append; catchable = changes-catchable; caught = changes-caught }
