use Rattle.client_links.specs.Wires.{IsFresh}
use Rattle.client_links.specs.Memory.{memory_wire}
use Rattle.client_links.proofs.Coming.{all_behind, fewer_behind}
use Rattle.client_links.proofs.mem_acceptor.MemAcceptorAcceptor.next.Goals as goal

pub invariant_of-self-in-Some : goal.invariant_of-self-in-Some
invariant_of-self-in-Some g c = record {
  fresh = all_behind (λ link. IsFresh (memory_wire link)) c.args.self.now.links.items c.pop_front.new.self.items c.in-Some.link c.in-Some.ensures.items c.args.self.now.fresh;
  few = fewer_behind c.args.self.now.came c.args.self.now.links.items c.pop_front.new.self.items c.in-Some.link c.in-Some.ensures.items c.args.self.now.few;
}
