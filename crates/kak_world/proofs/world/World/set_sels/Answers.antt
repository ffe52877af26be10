use Rattle.std.proofs.Common.{◌<◌, length, ap, sym, subst, ◌∙◌, arith, refl}
use Rattle.selection_set.specs.Held.{selected, IsHeld}
use Rattle.list_shelf.specs.declared.holder.Holder.TheVariants.{Of}
use Rattle.kak_world.specs.Flat.{Buffer, with_list, text_of, with_sels, rest_of, turn_of, is_turn_of}
use Rattle.kak_world.proofs.WorldLaws.{acts_joined, acts_turned}
use Rattle.kak_world.proofs.WorldLemmas.{here-of, shown-inside, shown-not_none, list-of, list-set-of, text-of}
use Rattle.kak_world.proofs.StandingLemmas.{stands-set}
use Rattle.kak_world.specs.Seen.{all_seen, Kept}
use Rattle.kak_world.proofs.KeptLemmas.{seen-length, seen-at, seen-some, seen-none, kept-at, parts-set}
use Rattle.kak_world.proofs.StoredLemmas.{follows-turn, leave-set, some-leaves}
use Rattle.kak_world.proofs.world.World.set_sels.Goals as goal

pub client-requires : goal.client-requires
client-requires g c = here-of c.args.who _ _ _ _ c.self.view_is (acts_joined c.args.who c.args.self.now.flat c.requires.acts)

pub index_mut-requires : goal.index_mut-requires
index_mut-requires g c = let inside : c.client.result.now.shown < length (all_seen c.self.inside.buffers.items) = shown-inside c.args.who _ _ _ _ _ c.self.view_is c.client.ensures (acts_joined c.args.who c.args.self.now.flat c.requires.acts) in omega (arith, seen-length c.self.inside.buffers.items, c.self.inside.buffers.ok.0)

pub unreachable-requires : goal.unreachable-requires
unreachable-requires g c = shown-not_none c.args.who _ _ _ _ _ _ c.self.view_is c.client.ensures (acts_joined c.args.who c.args.self.now.flat c.requires.acts) (seen-at c.self.inside.buffers.items c.client.result.now.shown _ c.index_mut.ensures.value) (seen-none _ c.in-None.is)

pub set_sels-requires-clause-list : goal.set_sels-requires-clause-list
set_sels-requires-clause-list g c = list-of c.args.who _ _ _ _ _ _ _ c.self.view_is c.client.ensures (acts_joined c.args.who c.args.self.now.flat c.requires.acts) (seen-at c.self.inside.buffers.items c.client.result.now.shown _ c.index_mut.ensures.value) (seen-some _ _ c.in-Some.is)

pub set_sels-requires-clause-held : goal.set_sels-requires-clause-held
set_sels-requires-clause-held g c = subst (λ t. IsHeld t c.args.sels) (sym (text-of c.args.who _ _ _ _ _ _ _ c.self.view_is c.client.ensures (acts_joined c.args.who c.args.self.now.flat c.requires.acts) (seen-at c.self.inside.buffers.items c.client.result.now.shown _ c.index_mut.ensures.value) (seen-some _ _ c.in-Some.is))) c.requires.held

pub invariant_of-self : goal.invariant_of-self
unfolding rest_of
invariant_of-self g c =
    let inside = shown-inside c.args.who _ _ _ _ _ c.self.view_is c.client.ensures (acts_joined c.args.who c.args.self.now.flat c.requires.acts) in
    stands-set _ _ _ _ _ _ _ (kept-at _ _ _ _ inside c.index_mut.ensures.value c.in-Some.is) (ap (λ (b : Buffer). b.story) c.set_sels.ensures.seen) c.set_sels.ensures.up
    (follows-turn _ c.args.who _ _ _ (ap (λ (k : Kept). is_turn_of c.args.who (turn_of k.flat)) c.self.view_is ∙ acts_turned c.args.who c.args.self.now.flat c.requires.acts) (leave-set (Of c.args.who) _ _ _ _ c.index_mut.ensures.value (some-leaves (Of c.args.who) _ _ _ _ c.in-Some.is refl (λ _ _. c.set_sels.ensures.stays))))
    c.set_sels.ensures.stays.since
    c.self.invariant

pub returns : goal.returns
unfolding with_sels
returns g c = parts-set _ _ _ _ _ ∙ list-set-of c.args.who _ _ _ _ _ _ _ _ (λ held. record held { sels = selected (text_of c.args.who c.args.self.now.flat) c.args.sels }) c.self.view_is c.client.ensures (acts_joined c.args.who c.args.self.now.flat c.requires.acts) (seen-at c.self.inside.buffers.items c.client.result.now.shown _ c.index_mut.ensures.value) (seen-some _ _ c.in-Some.is) (c.set_sels.ensures.seen ∙ ap (λ t. with_list (Of c.args.who) (λ held. record held { sels = selected t c.args.sels }) c.in-Some.buffer.seen) (text-of c.args.who _ _ _ _ _ _ _ c.self.view_is c.client.ensures (acts_joined c.args.who c.args.self.now.flat c.requires.acts) (seen-at c.self.inside.buffers.items c.client.result.now.shown _ c.index_mut.ensures.value) (seen-some _ _ c.in-Some.is)))
