use Rattle.kak_ports.proofs.Writing.{front-taken}
use Rattle.kak_ports.proofs.memory.MemSinkSink.put.Goals as goal

pub returns-then-is_next-clause-puts : goal.returns-then-is_next-clause-puts
returns-then-is_next-clause-puts c = front-taken _ _ _ _ c.add.ensures.added
