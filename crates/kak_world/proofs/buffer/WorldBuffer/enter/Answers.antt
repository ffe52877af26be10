use Rattle.std.proofs.Common.{ap, ◌∙◌}
use Rattle.list_shelf.specs.Shelves.{same_holder, entered}
use Rattle.kak_world.specs.Seen.{KeptBuffer}
use Rattle.kak_world.proofs.ListLemmas.{can-stand, entered-got, entered-up, now-same}
use Rattle.kak_world.proofs.StoredLemmas.{but-outside, up-leaves}
use Rattle.kak_world.proofs.buffer.WorldBuffer.enter.Goals as goal

pub enter-requires : goal.enter-requires
enter-requires c = can-stand _ _ c.self.invariant

pub invariant_of-self : goal.invariant_of-self
invariant_of-self c = (entered-got c.args.holder _ _ _ c.self.invariant c.enter.ensures).is

pub returns-clause-seen : goal.returns-clause-seen
returns-clause-seen c = now-same _ _ _ _ c.enter.new.self _ c.self.view_is (entered-got c.args.holder _ _ _ c.self.invariant c.enter.ensures).lists_are

pub returns-clause-shelf : goal.returns-clause-shelf
returns-clause-shelf c = c.enter.ensures ∙ ap (λ (b : KeptBuffer). entered c.args.holder b.shelf) c.self.view_is

pub returns-clause-up : goal.returns-clause-up
returns-clause-up c = entered-up c.args.holder _ _ _ c.self.invariant c.enter.ensures

pub returns-clause-stays : goal.returns-clause-stays
returns-clause-stays c = but-outside (same_holder c.args.holder) _ _ _ _ _ _ _ c.self.view_is (up-leaves c.args.holder _ _ c.enter.ensures)
