use Rattle.kak_world.proofs.ListLemmas.{list-has, list-corner}
use Rattle.kak_world.proofs.buffer.WorldBuffer.corner.Goals as goal

pub corner-requires : goal.corner-requires
corner-requires c = list-has c.args.holder _ _ _ _ _ c.self.view_is c.requires

pub returns : goal.returns
returns c = list-corner c.args.holder _ _ _ _ _ _ c.self.view_is c.requires c.corner.ensures
