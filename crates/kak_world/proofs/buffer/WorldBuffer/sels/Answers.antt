use Rattle.kak_world.proofs.ListLemmas.{list-has, up-inside, list-read}
use Rattle.kak_world.proofs.buffer.WorldBuffer.sels.Goals as goal

pub sels-requires-clause-list : goal.sels-requires-clause-list
sels-requires-clause-list c = list-has c.args.holder _ _ _ _ _ c.self.view_is c.requires.list

pub sels-requires-clause-up : goal.sels-requires-clause-up
sels-requires-clause-up c = up-inside c.args.holder _ _ _ _ _ c.self.view_is c.requires.up (list-has c.args.holder _ _ _ _ _ c.self.view_is c.requires.list)

pub returns-clause-sels : goal.returns-clause-sels
returns-clause-sels c = (list-read c.args.holder _ _ _ _ _ _ c.self.view_is c.requires.list c.requires.up c.self.invariant.stands c.sels.ensures).0

pub returns-clause-held : goal.returns-clause-held
returns-clause-held c = (list-read c.args.holder _ _ _ _ _ _ c.self.view_is c.requires.list c.requires.up c.self.invariant.stands c.sels.ensures).1
