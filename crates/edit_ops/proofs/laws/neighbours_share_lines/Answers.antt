use Rattle.edit_ops.proofs.AligningLemmas.{neighbours-tell}
use Rattle.edit_ops.proofs.laws.neighbours_share_lines.Goals as goal

pub returns : goal.returns
returns c = neighbours-tell
