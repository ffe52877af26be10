use Rattle.std.proofs.Common.{◌∙◌}
use Rattle.kak_world.proofs.ListLemmas.{list-there}
use Rattle.kak_world.proofs.buffer.WorldBuffer.has_list.Goals as goal

pub returns : goal.returns
returns c = c.has_list.ensures ∙ list-there c.args.holder _ _ _ _ _ c.self.view_is
