use Rattle.std.proofs.Common.{◌<◌, length, ap, ◌∙◌, arith, refl}
use Rattle.kak_world.specs.Flat.{Buffer, with_corner, rest_of, turn_of, is_turn_of}
use Rattle.kak_world.proofs.WorldLaws.{acts_joined, acts_turned}
use Rattle.kak_world.proofs.WorldLemmas.{here-of, shown-inside, shown-not_none, list-of, list-set-of}
use Rattle.kak_world.proofs.StandingLemmas.{stands-set}
use Rattle.kak_world.specs.Seen.{all_seen, Kept}
use Rattle.kak_world.proofs.KeptLemmas.{seen-length, seen-at, seen-some, seen-none, kept-at, parts-set}
use Rattle.kak_world.proofs.StoredLemmas.{follows-turn, leave-set, some-leaves}
use Rattle.list_shelf.specs.declared.holder.Holder.TheVariants.{Of}
use Rattle.kak_world.proofs.world.World.set_corner.Goals as goal

pub client-requires : goal.client-requires
client-requires g c = here-of c.args.who _ _ _ _ c.self.view_is (acts_joined c.args.who c.args.self.now.flat c.requires)

pub index_mut-requires : goal.index_mut-requires
index_mut-requires g c = let inside : c.client.result.now.shown < length (all_seen c.self.inside.buffers.items) = shown-inside c.args.who _ _ _ _ _ c.self.view_is c.client.ensures (acts_joined c.args.who c.args.self.now.flat c.requires) in omega (arith, seen-length c.self.inside.buffers.items, c.self.inside.buffers.ok.0)

pub unreachable-requires : goal.unreachable-requires
unreachable-requires g c = shown-not_none c.args.who _ _ _ _ _ _ c.self.view_is c.client.ensures (acts_joined c.args.who c.args.self.now.flat c.requires) (seen-at c.self.inside.buffers.items c.client.result.now.shown _ c.index_mut.ensures.value) (seen-none _ c.in-None.is)

pub set_corner-requires : goal.set_corner-requires
set_corner-requires g c = list-of c.args.who _ _ _ _ _ _ _ c.self.view_is c.client.ensures (acts_joined c.args.who c.args.self.now.flat c.requires) (seen-at c.self.inside.buffers.items c.client.result.now.shown _ c.index_mut.ensures.value) (seen-some _ _ c.in-Some.is)

pub invariant_of-self : goal.invariant_of-self
unfolding rest_of
invariant_of-self g c =
    let inside = shown-inside c.args.who _ _ _ _ _ c.self.view_is c.client.ensures (acts_joined c.args.who c.args.self.now.flat c.requires) in
    stands-set _ _ _ _ _ _ _ (kept-at _ _ _ _ inside c.index_mut.ensures.value c.in-Some.is) (ap (λ (b : Buffer). b.story) c.set_corner.ensures.seen) c.set_corner.ensures.up
    (follows-turn _ c.args.who _ _ _ (ap (λ (k : Kept). is_turn_of c.args.who (turn_of k.flat)) c.self.view_is ∙ acts_turned c.args.who c.args.self.now.flat c.requires) (leave-set (Of c.args.who) _ _ _ _ c.index_mut.ensures.value (some-leaves (Of c.args.who) _ _ _ _ c.in-Some.is refl (λ _ _. c.set_corner.ensures.stays))))
    c.set_corner.ensures.stays.since
    c.self.invariant

pub returns : goal.returns
unfolding with_corner
returns g c = parts-set _ _ _ _ _ ∙ list-set-of c.args.who _ _ _ _ _ _ _ _ (λ held. record held { corner = c.args.corner }) c.self.view_is c.client.ensures (acts_joined c.args.who c.args.self.now.flat c.requires) (seen-at c.self.inside.buffers.items c.client.result.now.shown _ c.index_mut.ensures.value) (seen-some _ _ c.in-Some.is) c.set_corner.ensures.seen
