use Rattle.std.proofs.Common.{subst}
use Rattle.kak_world.specs.Settled.{ListsAreSettled}
use Rattle.kak_world.specs.Seen.{KeptBuffer}
use Rattle.kak_world.proofs.SettledLemmas.{lists-settled}
use Rattle.kak_world.proofs.buffer.WorldBuffer.lists_are_settled.Goals as goal

pub returns : goal.returns
returns c = subst (λ (b : KeptBuffer). ListsAreSettled b.seen) c.self.view_is (lists-settled c.self.inside.store.text c.self.inside.shelf.log c.self.inside.shelf.rows c.self.invariant.stands)
