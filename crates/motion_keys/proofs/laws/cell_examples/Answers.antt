-- The examples hold by computation, with the tables of characters open.
use Rattle.unicode_width.proofs.Computing.{unicode_width}
use Rattle.motion_keys.proofs.laws.cell_examples.Goals as goal

pub returns : goal.returns
unfolding unicode_width
returns c = search
