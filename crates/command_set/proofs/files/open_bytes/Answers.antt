use Rattle.text_coding.specs.Coding.{loaded}
use Rattle.command_set.proofs.WantingLemmas.{part-none}
use Rattle.command_set.proofs.files.open_bytes.Goals as goal

pub returns-in-Err-clause-err : goal.returns-in-Err-clause-err
returns-in-Err-clause-err g c = part-none (loaded c.args.bytes.now) c.args.name.now c.args.who c.args.world.now.flat
