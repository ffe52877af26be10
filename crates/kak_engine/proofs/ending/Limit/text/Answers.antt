use Rattle.std.specs.Str.{chars}
use Rattle.kak_engine.proofs.ending.Limit.text.Goals as goal

pub returns-in-Depth : goal.returns-in-Depth
unfolding chars
returns-in-Depth c = rw c.in-Depth.is c.from_str.ensures
