use Rattle.std.proofs.Common.{refl, sym, subst}
use Rattle.list_shelf.specs.Shelves.{same_holder, KeepsUp}
use Rattle.list_shelf.proofs.StandLemmas.{other_corner_seen}
use Rattle.list_shelf.proofs.UpLemmas.{up-corner}
use Rattle.kak_world.proofs.ListLemmas.{list-has, up-outside, corner-got, now-one}
use Rattle.kak_world.proofs.StoredLemmas.{but-outside, placed-elsewhere}
use Rattle.kak_world.proofs.buffer.WorldBuffer.set_corner.Goals as goal

pub set_corner-requires : goal.set_corner-requires
set_corner-requires c = list-has c.args.holder _ _ _ _ _ c.self.view_is c.requires

pub invariant_of-self : goal.invariant_of-self
invariant_of-self c = (corner-got c.args.holder _ _ _ _ c.self.invariant c.set_corner.ensures).is

pub returns-clause-seen : goal.returns-clause-seen
returns-clause-seen c =
    now-one c.args.holder _ _ _ _ c.set_corner.new.self _ (other_corner_seen c.args.corner) (λ held. record held { corner = c.args.corner }) c.self.view_is
    (corner-got c.args.holder _ _ _ _ c.self.invariant c.set_corner.ensures).lists_are
    refl

pub returns-clause-up : goal.returns-clause-up
returns-clause-up c = up-outside _ _ _ _ c.set_corner.new.self _ c.self.view_is (subst (KeepsUp c.self.inside.shelf) (sym c.set_corner.ensures) (up-corner c.args.holder c.args.corner c.self.inside.shelf))

pub returns-clause-stays : goal.returns-clause-stays
returns-clause-stays c = but-outside (same_holder c.args.holder) _ _ _ _ _ _ _ c.self.view_is (placed-elsewhere c.args.holder c.args.corner _ _ c.set_corner.ensures)
