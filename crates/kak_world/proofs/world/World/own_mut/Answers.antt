use Rattle.std.proofs.Common.{refl, ap, ◌∙◌}
use Rattle.kak_world.specs.Flat.{with_own, own_of, client_of}
use Rattle.kak_world.specs.Seen.{Kept}
use Rattle.kak_world.proofs.WorldLemmas.{here-of}
use Rattle.kak_world.proofs.StandingLemmas.{stands-own}
use Rattle.kak_world.proofs.world.World.own_mut.Goals as goal

pub own_mut-requires : goal.own_mut-requires
own_mut-requires g c = here-of c.args.who _ _ _ _ c.self.view_is c.requires

pub invariant_of-self-lent : goal.invariant_of-self-lent
invariant_of-self-lent g c = λ o. stands-own c.self.inside.may_pend c.self.inside.rest.step.turn c.self.inside.clients c.self.inside.buffers.items c.args.who o c.self.invariant

pub returns : goal.returns
unfolding with_own own_of client_of
returns g c = (
  (refl, λ w. ap (λ (k : Kept). let x : Kept = record { flat = with_own c.args.who (λ _. w) k.flat; stored = k.stored } in x) c.self.view_is),
  record { writes_back = tt; value = c.own_mut.ensures.value ∙ ap (λ (k : Kept). own_of c.args.who k.flat) c.self.view_is },
)
