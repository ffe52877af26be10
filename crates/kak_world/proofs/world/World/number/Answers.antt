use Rattle.kak_world.proofs.WorldLemmas.{here-of, client-of, number-of}
use Rattle.kak_world.proofs.world.World.number.Goals as goal

pub client-client-requires : goal.client-client-requires
client-client-requires g c = here-of c.args.who _ _ _ _ c.self.view_is c.requires

pub returns : goal.returns
returns g c = number-of c.args.who _ _ (client-of c.args.who _ _ _ _ _ c.self.view_is c.client-client.ensures)
