use Rattle.std.proofs.Common.{refl, sym, subst}
use Rattle.list_shelf.specs.Shelves.{same_holder, KeepsUp}
use Rattle.list_shelf.proofs.StandLemmas.{main_seen}
use Rattle.list_shelf.proofs.UpLemmas.{up-main}
use Rattle.kak_world.specs.Flat.{list_on}
use Rattle.kak_world.proofs.ListLemmas.{list-has, up-inside, up-outside, main-there, main-got, now-one}
use Rattle.kak_world.proofs.StoredLemmas.{but-outside, main-leaves}
use Rattle.kak_world.proofs.buffer.WorldBuffer.set_main.Goals as goal

pub set_main-requires-clause-list : goal.set_main-requires-clause-list
set_main-requires-clause-list c = list-has c.args.holder _ _ _ _ _ c.self.view_is c.requires.list

pub set_main-requires-clause-up : goal.set_main-requires-clause-up
set_main-requires-clause-up c = up-inside c.args.holder _ _ _ _ _ c.self.view_is c.requires.up (list-has c.args.holder _ _ _ _ _ c.self.view_is c.requires.list)

pub set_main-requires-clause-there : goal.set_main-requires-clause-there
set_main-requires-clause-there c = main-there c.args.holder _ _ _ _ _ c.args.n c.self.view_is c.requires.list c.requires.up c.self.invariant.stands c.requires.there

pub invariant_of-self : goal.invariant_of-self
invariant_of-self c =
    (main-got c.args.holder _ c.args.n _ _ (list-has c.args.holder _ _ _ _ _ c.self.view_is c.requires.list) (up-inside c.args.holder _ _ _ _ _ c.self.view_is c.requires.up)
    (main-there c.args.holder _ _ _ _ _ c.args.n c.self.view_is c.requires.list c.requires.up c.self.invariant.stands c.requires.there) c.self.invariant c.set_main.ensures).is

pub returns-clause-seen : goal.returns-clause-seen
returns-clause-seen c =
    now-one c.args.holder _ _ _ _ c.set_main.new.self _ (main_seen c.args.n) (λ held. record held { sels = record { list = (list_on c.args.holder c.args.self.now.seen).sels.list; main = c.args.n } }) c.self.view_is
    (main-got c.args.holder _ c.args.n _ _ (list-has c.args.holder _ _ _ _ _ c.self.view_is c.requires.list) (up-inside c.args.holder _ _ _ _ _ c.self.view_is c.requires.up)
    (main-there c.args.holder _ _ _ _ _ c.args.n c.self.view_is c.requires.list c.requires.up c.self.invariant.stands c.requires.there) c.self.invariant c.set_main.ensures).lists_are
    refl

pub returns-clause-up : goal.returns-clause-up
returns-clause-up c = up-outside _ _ _ _ c.set_main.new.self _ c.self.view_is (subst (KeepsUp c.self.inside.shelf) (sym c.set_main.ensures) (up-main c.args.holder c.args.n c.self.inside.shelf))

pub returns-clause-stays : goal.returns-clause-stays
returns-clause-stays c = but-outside (same_holder c.args.holder) _ _ _ _ _ _ _ c.self.view_is (main-leaves c.args.holder c.args.n _ _ c.set_main.ensures)
