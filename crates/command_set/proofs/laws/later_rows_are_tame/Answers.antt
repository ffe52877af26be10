use Rattle.command_set.proofs.LaterLaws.{tame_later, later_fewer}
use Rattle.command_set.proofs.laws.later_rows_are_tame.Goals as goal

pub returns : goal.returns
returns c = record { later = tame_later; falls = later_fewer }
