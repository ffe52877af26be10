use Rattle.std.proofs.Common.{◌<◌, length, ap, ◌∙◌, arith}
use Rattle.kak_world.proofs.WorldLemmas.{here-of, shown-inside, shown-not_none, buffer-of}
use Rattle.kak_world.specs.Flat.{rest_of, turn_of, is_turn_of}
use Rattle.kak_world.specs.Seen.{Kept, all_seen}
use Rattle.kak_world.proofs.KeptLemmas.{seen-length, seen-at, seen-some, seen-none, kept-at, shown-up}
use Rattle.kak_world.proofs.world.World.shown.Goals as goal

pub client-client-requires : goal.client-client-requires
client-client-requires g c = here-of c.args.who _ _ _ _ c.self.view_is c.requires

pub index-requires : goal.index-requires
index-requires g c = let inside : c.client-client.result.now.shown < length (all_seen c.self.inside.buffers.items) = shown-inside c.args.who _ _ _ _ _ c.self.view_is c.client-client.ensures c.requires in omega (arith, seen-length c.self.inside.buffers.items, c.self.inside.buffers.ok.0)

pub unreachable-requires : goal.unreachable-requires
unreachable-requires g c = shown-not_none c.args.who _ _ _ _ _ _ c.self.view_is c.client-client.ensures c.requires (seen-at c.self.inside.buffers.items c.client-client.result.now.shown _ c.index.ensures) (seen-none _ c.in-None.is)

pub returns-clause-seen : goal.returns-clause-seen
returns-clause-seen g c = buffer-of c.args.who _ _ _ _ _ _ _ c.self.view_is c.client-client.ensures c.requires (seen-at c.self.inside.buffers.items c.client-client.result.now.shown _ c.index.ensures) (seen-some _ _ c.in-Some.is)

pub returns-clause-up : goal.returns-clause-up
unfolding rest_of
returns-clause-up g c = λ turn.
    let inside = shown-inside c.args.who _ _ _ _ _ c.self.view_is c.client-client.ensures c.requires in
    shown-up c.args.who _ _ _ _ _ (ap (λ (k : Kept). is_turn_of c.args.who (turn_of k.flat)) c.self.view_is ∙ turn) (here-of c.args.who _ _ _ _ c.self.view_is c.requires) c.client-client.ensures (kept-at _ _ _ _ inside c.index.ensures c.in-Some.is) c.self.invariant.up
