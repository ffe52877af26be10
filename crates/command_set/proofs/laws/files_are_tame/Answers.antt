use Rattle.command_set.proofs.FileLaws.{tame_read, tame_saved, read_ends, saved_fewer}
use Rattle.command_set.proofs.laws.files_are_tame.Goals as goal

pub returns : goal.returns
returns c = record { read = tame_read; saved = tame_saved; read_ends = read_ends; saved_falls = saved_fewer }
