use Rattle.window_view.proofs.HoldingLemmas.{one_holder}
use Rattle.window_view.proofs.laws.cells_have_one_holder.Goals as goal

pub returns : goal.returns
returns c = one_holder
