use Rattle.std.proofs.Common.{[], ◌<◌, length, refl, ap, ◌∙◌, arith}
use Rattle.kak_world.specs.Flat.{lowest, is_here, is_joined}
use Rattle.kak_world.specs.Seen.{Kept, all_seen, slot_seen}
use Rattle.kak_world.proofs.WorldLemmas.{lowest-inside, came, came-not, joined-comes, parts}
use Rattle.kak_world.proofs.ShowingLemmas.{set-slot, set-slot_same, has-changed_to, has-same}
use Rattle.kak_world.proofs.KeptLemmas.{seen-length, seen-set, seen-at, seen-same}
use Rattle.kak_world.proofs.StandingLemmas.{stands-pending, came-not-up}
use Rattle.kak_world.proofs.StoredLemmas.{in-step, follows-then, follows-all, leave-set, slot-to}
use Rattle.list_shelf.specs.declared.holder.Holder.TheVariants.{Of}
use Rattle.kak_world.proofs.world.World.join.Goals as goal

pub index_mut-requires : goal.index_mut-requires
index_mut-requires g c =
    let inside : c.lowest-n.result < length (all_seen c.self.inside.buffers.items) = lowest-inside _ _ c.self.invariant.has (c.lowest-n.ensures ∙ ap (λ bs. lowest (all_seen bs)) c.as_slice.ensures.value) in
    omega (arith, seen-length c.self.inside.buffers.items, c.self.inside.buffers.ok.0)

pub invariant_of-self-in-Ok : goal.invariant_of-self-in-Ok
invariant_of-self-in-Ok g c = stands-pending _ _ _
    (has-changed_to c.lowest-n.result _ (all_seen c.self.inside.buffers.items) _ (c.bring_turn_up.ensures.seen ∙ seen-set _ _ _ ∙ set-slot c.lowest-n.result _ (all_seen c.self.inside.buffers.items) _ _ (seen-at c.self.inside.buffers.items c.lowest-n.result _ c.index_mut.ensures.value) c.in-Ok.ensures.ok) c.self.invariant.has)
    c.bring_turn_up.ensures.up
    (in-step _ _ _ _ _ (follows-then _ _ _ _ _ (λ k. leave-set (Of k) _ _ _ _ c.index_mut.ensures.value (c.in-Ok.ensures.leaves (Of k))) c.bring_turn_up.ensures.leaves) c.self.invariant.step)

pub returns-in-Ok-clause-ok : goal.returns-in-Ok-clause-ok
returns-in-Ok-clause-ok g c = came c.args.who _ _ _ _ _ _ _ c.self.view_is (c.lowest-n.ensures ∙ ap (λ bs. lowest (all_seen bs)) c.as_slice.ensures.value)
    (c.bring_turn_up.ensures.seen ∙ seen-set _ _ _ ∙ set-slot c.lowest-n.result _ (all_seen c.self.inside.buffers.items) _ _ (seen-at c.self.inside.buffers.items c.lowest-n.result _ c.index_mut.ensures.value) c.in-Ok.ensures.ok) c.in_ok-add.ensures.ok

pub returns-in-Ok-clause-joined : goal.returns-in-Ok-clause-joined
returns-in-Ok-clause-joined g c =
    ap (is_joined c.args.who) (came {st = []} c.args.who _ _ _ _ _ (parts _ _ _ _ _) _ refl (c.lowest-n.ensures ∙ ap (λ bs. lowest (all_seen bs)) c.as_slice.ensures.value)
    (c.bring_turn_up.ensures.seen ∙ seen-set _ _ _ ∙ set-slot c.lowest-n.result _ (all_seen c.self.inside.buffers.items) _ _ (seen-at c.self.inside.buffers.items c.lowest-n.result _ c.index_mut.ensures.value) c.in-Ok.ensures.ok) c.in_ok-add.ensures.ok)
    ∙ joined-comes c.args.who (all_seen c.self.inside.buffers.items) c.self.inside.clients c.self.inside.rest (record { highlighters = c.self.inside.highlighters; tables = c.self.inside.tables }) (ap (λ (k : Kept). is_here c.args.who k.flat.clients) c.self.view_is ∙ c.requires.away) c.self.invariant.has.some

pub returns-in-Err-clause-err : goal.returns-in-Err-clause-err
returns-in-Err-clause-err g c = came-not c.args.who _ _ _ _ _ _ _ _ c.self.view_is c.requires.away (seen-same _ _ _ _ c.index_mut.ensures.value (ap slot_seen c.in-Err.ensures.err)) c.in_ok-add.ensures.ok c.remove.ensures

pub invariant_of-self-in-Err : goal.invariant_of-self-in-Err
invariant_of-self-in-Err g c = stands-pending _ _ _ (has-same _ _ (seen-same _ _ _ _ c.index_mut.ensures.value (ap slot_seen c.in-Err.ensures.err)) c.self.invariant.has)
    (came-not-up c.args.who _ _ _ _ _ _ _ (ap (λ (k : Kept). is_here c.args.who k.flat.clients) c.self.view_is ∙ c.requires.away) (set-slot_same _ _ _ _ c.index_mut.ensures.value c.in-Err.ensures.err) c.in_ok-add.ensures.ok c.remove.ensures c.self.invariant.up)
    (in-step _ _ _ _ _ (follows-all _ _ _ _ (λ k. leave-set (Of k) _ _ _ _ c.index_mut.ensures.value (slot-to (Of k) _ _ c.in-Err.ensures.err))) c.self.invariant.step)
