use Rattle.kak_world.proofs.WorldLemmas.{here-of, client-of, shown-of}
use Rattle.kak_world.proofs.world.World.shown_number.Goals as goal

pub client-requires : goal.client-requires
client-requires g c = here-of c.args.who _ _ _ _ c.self.view_is c.requires

pub returns : goal.returns
returns g c = shown-of c.args.who _ _ (client-of c.args.who _ _ _ _ _ c.self.view_is c.client.ensures)
