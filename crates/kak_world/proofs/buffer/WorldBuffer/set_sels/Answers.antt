use Rattle.std.proofs.Common.{ap, sym, subst}
use Rattle.selection_set.specs.Held.{selected, IsHeld}
use Rattle.list_shelf.specs.Shelves.{same_holder, Held}
use Rattle.list_shelf.proofs.StandLemmas.{other_seen}
use Rattle.kak_world.specs.Flat.{list_on}
use Rattle.kak_world.specs.Seen.{KeptBuffer}
use Rattle.kak_world.proofs.ListLemmas.{list-has, up-outside, now-one, replaced-can, replaced-got, replaced-up}
use Rattle.kak_world.proofs.StoredLemmas.{but-outside, sels-leaves}
use Rattle.kak_world.proofs.buffer.WorldBuffer.set_sels.Goals as goal

pub set_sels-requires : goal.set_sels-requires
set_sels-requires c = list-has c.args.holder _ _ _ _ _ c.self.view_is c.requires.list

pub trim-requires : goal.trim-requires
trim-requires c =
    let held = subst (λ (b : KeptBuffer). IsHeld b.seen.story.text c.args.sels) (sym c.self.view_is) c.requires.held in
    replaced-can c.args.holder _ c.args.sels _ _ (list-has c.args.holder _ _ _ _ _ c.self.view_is c.requires.list) held c.self.invariant c.set_sels.ensures

pub invariant_of-self : goal.invariant_of-self
invariant_of-self c =
    let held = subst (λ (b : KeptBuffer). IsHeld b.seen.story.text c.args.sels) (sym c.self.view_is) c.requires.held in
    (replaced-got c.args.holder _ c.args.sels _ _ _ (list-has c.args.holder _ _ _ _ _ c.self.view_is c.requires.list) held c.self.invariant c.set_sels.ensures c.trim.ensures).is

pub returns-clause-seen : goal.returns-clause-seen
returns-clause-seen c =
    let held = subst (λ (b : KeptBuffer). IsHeld b.seen.story.text c.args.sels) (sym c.self.view_is) c.requires.held in
    let list = list_on c.args.holder c.args.self.now.seen in
    now-one c.args.holder _ _ _ _ c.trim.new.self _ (other_seen c.self.inside.store.text c.args.sels) (λ held. record held { sels = selected c.args.self.now.seen.story.text c.args.sels }) c.self.view_is
    (replaced-got c.args.holder _ c.args.sels _ _ _ (list-has c.args.holder _ _ _ _ _ c.self.view_is c.requires.list) held c.self.invariant c.set_sels.ensures c.trim.ensures).lists_are
    (ap (λ (b : KeptBuffer). let h : Held = record { holder = list.holder; sels = selected b.seen.story.text c.args.sels; corner = list.corner } in h) c.self.view_is)

pub returns-clause-up : goal.returns-clause-up
returns-clause-up c =
    let held = subst (λ (b : KeptBuffer). IsHeld b.seen.story.text c.args.sels) (sym c.self.view_is) c.requires.held in
    up-outside _ _ _ _ c.trim.new.self _ c.self.view_is (replaced-up c.args.holder _ c.args.sels _ _ _ (list-has c.args.holder _ _ _ _ _ c.self.view_is c.requires.list) held c.self.invariant c.set_sels.ensures c.trim.ensures)

pub returns-clause-stays : goal.returns-clause-stays
returns-clause-stays c = but-outside (same_holder c.args.holder) _ _ _ _ _ _ _ c.self.view_is (sels-leaves c.args.holder c.args.sels _ _ _ c.set_sels.ensures c.trim.ensures)
