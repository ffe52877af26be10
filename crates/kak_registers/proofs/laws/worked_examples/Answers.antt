use Rattle.std.specs.Str.{chars}
use Rattle.std.proofs.Common.{rules}
use Rattle.kak_registers.proofs.laws.worked_examples.Goals as goal

pub returns : goal.returns
unfolding chars
returns c = search rules
