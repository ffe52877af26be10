use Rattle.std.proofs.Common.{arith, ◌∙◌}
use Rattle.kak_world.specs.Seen.{all_seen}
use Rattle.kak_world.proofs.WorldLaws.{acts_joined}
use Rattle.kak_world.proofs.ShowingLemmas.{here-in, there-slot, set-slot, has-changed_to, now-shows, now-keeps}
use Rattle.kak_world.proofs.KeptLemmas.{seen-length, seen-set, seen-at}
use Rattle.kak_world.proofs.StandingLemmas.{stands-pending}
use Rattle.kak_world.proofs.StoredLemmas.{in-step, follows-then, leave-set}
use Rattle.list_shelf.specs.declared.holder.Holder.TheVariants.{Of}
use Rattle.kak_world.proofs.world.World.show.Goals as goal

pub index_mut-requires : goal.index_mut-requires
index_mut-requires g c = omega (arith, there-slot c.args.n _ _ _ _ c.self.view_is c.requires.there, seen-length c.self.inside.buffers.items, c.self.inside.buffers.ok.0)

pub set_shown-requires : goal.set_shown-requires
set_shown-requires g c = here-in c.args.who _ _ _ _ c.self.view_is (acts_joined c.args.who c.args.self.now.flat c.requires.acts)

pub invariant_of-self-2 : goal.invariant_of-self-2
invariant_of-self-2 g c = stands-pending _ _ _
    (has-changed_to c.args.n _ (all_seen c.self.inside.buffers.items) _ (c.bring_turn_up.ensures.seen ∙ seen-set _ _ _ ∙ set-slot c.args.n _ (all_seen c.self.inside.buffers.items) _ _ (seen-at c.self.inside.buffers.items c.args.n _ c.index_mut.ensures.value) c.in_ok-add_list_in.ensures.ok) c.self.invariant.has)
    c.bring_turn_up.ensures.up
    (in-step _ _ _ _ _ (follows-then _ _ _ _ _ (λ k. leave-set (Of k) _ _ _ _ c.index_mut.ensures.value (c.in_ok-add_list_in.ensures.leaves (Of k))) c.bring_turn_up.ensures.leaves) c.self.invariant.step)

pub returns-clause-ok : goal.returns-clause-ok
returns-clause-ok g c = now-shows c.args.who c.args.n _ _ _ _ _ _ c.self.view_is (c.bring_turn_up.ensures.seen ∙ seen-set _ _ _ ∙ set-slot c.args.n _ (all_seen c.self.inside.buffers.items) _ _ (seen-at c.self.inside.buffers.items c.args.n _ c.index_mut.ensures.value) c.in_ok-add_list_in.ensures.ok) c.set_shown.ensures

pub returns-clause-keeps : goal.returns-clause-keeps
returns-clause-keeps g c = now-keeps c.args.who c.args.n c.args.self.now _ (acts_joined c.args.who c.args.self.now.flat c.requires.acts) c.requires.there
    (now-shows c.args.who c.args.n _ _ _ _ _ _ c.self.view_is (c.bring_turn_up.ensures.seen ∙ seen-set _ _ _ ∙ set-slot c.args.n _ (all_seen c.self.inside.buffers.items) _ _ (seen-at c.self.inside.buffers.items c.args.n _ c.index_mut.ensures.value) c.in_ok-add_list_in.ensures.ok) c.set_shown.ensures)
