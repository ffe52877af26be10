use Rattle.command_set.proofs.FinishLaws.{finish_falls}
use Rattle.command_set.proofs.laws.finish_falls.Goals as goal

pub returns : goal.returns
returns c = finish_falls
