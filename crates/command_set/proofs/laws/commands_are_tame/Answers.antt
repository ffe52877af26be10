use Rattle.command_set.proofs.CommandLaws.{tame_command}
use Rattle.command_set.proofs.laws.commands_are_tame.Goals as goal

pub returns : goal.returns
returns c = tame_command
