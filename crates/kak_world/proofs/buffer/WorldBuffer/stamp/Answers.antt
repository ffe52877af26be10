use Rattle.std.proofs.Common.{ap, ◌∙◌}
use Rattle.list_shelf.specs.Shelves.{row_of}
use Rattle.kak_world.specs.Seen.{KeptBuffer}
use Rattle.kak_world.proofs.ListLemmas.{list-has}
use Rattle.kak_world.proofs.buffer.WorldBuffer.stamp.Goals as goal

pub stamp-requires : goal.stamp-requires
stamp-requires c = list-has c.args.holder _ _ _ _ _ c.self.view_is c.requires

pub returns : goal.returns
returns c = c.stamp.ensures ∙ ap (λ (b : KeptBuffer). (row_of c.args.holder b.shelf).lag.stamp) c.self.view_is
