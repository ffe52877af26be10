use Rattle.kak_world.proofs.ListLemmas.{list-has, can-stand, list-count}
use Rattle.kak_world.proofs.buffer.WorldBuffer.sel_count.Goals as goal

pub copy_of-requires-clause-list : goal.copy_of-requires-clause-list
copy_of-requires-clause-list c = list-has c.args.holder _ _ _ _ _ c.self.view_is c.requires

pub copy_of-requires-clause-can : goal.copy_of-requires-clause-can
copy_of-requires-clause-can c = can-stand _ _ c.self.invariant

pub returns : goal.returns
returns c = list-count c.args.holder _ _ _ _ _ _ _ c.self.view_is c.requires c.in_ok-sels.ensures.ok c.len.ensures.value
