-- The examples hold by computation, with the table of widths open.
use Rattle.unicode_width.proofs.Computing.{unicode_width}
use Rattle.motion_keys.proofs.jump_laws.finding_examples.Goals as goal

pub returns : goal.returns
unfolding unicode_width
returns c = search
