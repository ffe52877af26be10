use Rattle.command_set.proofs.FinishLaws.{keeps_finish}
use Rattle.command_set.proofs.laws.finish_keeps_clients.Goals as goal

pub returns : goal.returns
returns c = keeps_finish
