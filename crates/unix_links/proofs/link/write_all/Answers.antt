use Rattle.kak_ports.proofs.Writing.{written-step}
use Rattle.unix_links.proofs.link.write_all.Goals as goal

pub loop-rest-preserved-in-Ok : goal.loop-rest-preserved-in-Ok
loop-rest-preserved-in-Ok g c = rw c.all_after-rest.ensures (written-step _ _ c.loop-rest.invariant c.in-Ok.ensures.bytes)
