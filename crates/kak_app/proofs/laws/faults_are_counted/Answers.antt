use Rattle.kak_app.specs.declared.program.Status.TheVariants.{Done, Usage, ReadFault, WriteFault, NoMemory, HistoryFull, InputFull, BadClient}
use Rattle.kak_app.specs.Laws.{FaultsAreCounted}
use Rattle.kak_app.proofs.laws.faults_are_counted.Goals as goal

counted : FaultsAreCounted
counted keys Done old new r in_ out = tt
counted keys Usage old new r in_ out = tt
counted keys ReadFault old new r in_ out = in_ r.reads
counted keys WriteFault old new r in_ out = out r.writes
counted keys NoMemory old new r in_ out = tt
counted keys HistoryFull old new r in_ out = tt
counted keys InputFull old new r in_ out = tt
counted keys BadClient old new r in_ out = r

pub returns : goal.returns
returns c = counted
