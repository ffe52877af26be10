use Rattle.std.proofs.Common.{◌<◌, length, sym, subst, arith}
use Rattle.regex_select.specs.Known.{AreMatchesIn}
use Rattle.kak_world.specs.Seen.{all_seen, BuffersStand}
use Rattle.kak_world.proofs.WorldLemmas.{here-of, shown-inside, shown-not_none, text-of}
use Rattle.kak_world.proofs.KeptLemmas.{seen-length, seen-at, seen-some, seen-none, kept-at, same-set, same-parts}
use Rattle.kak_world.proofs.world.World.know_matches.Goals as goal

pub client-requires : goal.client-requires
client-requires g c = here-of c.args.who _ _ _ _ c.self.view_is c.requires.joined

pub index_mut-requires : goal.index_mut-requires
index_mut-requires g c = let inside : c.client.result.now.shown < length (all_seen c.self.inside.buffers.items) = shown-inside c.args.who _ _ _ _ _ c.self.view_is c.client.ensures c.requires.joined in omega (arith, seen-length c.self.inside.buffers.items, c.self.inside.buffers.ok.0)

pub unreachable-requires : goal.unreachable-requires
unreachable-requires g c = shown-not_none c.args.who _ _ _ _ _ _ c.self.view_is c.client.ensures c.requires.joined (seen-at c.self.inside.buffers.items c.client.result.now.shown _ c.index_mut.ensures.value) (seen-none _ c.in-None.is)

pub know_matches-requires : goal.know_matches-requires
know_matches-requires g c = subst (λ t. AreMatchesIn t c.args.known) (sym (text-of c.args.who _ _ _ _ _ _ _ c.self.view_is c.client.ensures c.requires.joined (seen-at c.self.inside.buffers.items c.client.result.now.shown _ c.index_mut.ensures.value) (seen-some _ _ c.in-Some.is))) c.requires.known

pub invariant_of-self : goal.invariant_of-self
invariant_of-self g c =
    let inside = shown-inside c.args.who _ _ _ _ _ c.self.view_is c.client.ensures c.requires.joined in
    subst (BuffersStand _ _ _ _ _) (sym (same-set _ _ _ _ (kept-at _ _ _ _ inside c.index_mut.ensures.value c.in-Some.is) c.know_matches.ensures)) c.self.invariant

pub returns : goal.returns
returns g c =
    let inside = shown-inside c.args.who _ _ _ _ _ c.self.view_is c.client.ensures c.requires.joined in
    same-parts _ _ _ (same-set _ _ _ _ (kept-at _ _ _ _ inside c.index_mut.ensures.value c.in-Some.is) c.know_matches.ensures) c.self.view_is
