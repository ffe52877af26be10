use Rattle.std.proofs.Common.{◌+◌, ◌-◌, length}
use Rattle.kak_ports.proofs.Writing.{Written}
use Rattle.unix_links.proofs.link.write_all.Given as goal

abbrev pub invariant-loop-rest : goal.invariant-loop-rest
invariant-loop-rest g l = Written (g.W.Write.contents l.initial.writer) (g.W.Write.contents l.writer) l.bytes l.rest

abbrev pub decreases-loop-rest : goal.decreases-loop-rest
decreases-loop-rest g l = length l.rest + (100 - l.pauses)
