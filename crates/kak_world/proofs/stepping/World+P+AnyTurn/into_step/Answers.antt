use Rattle.std.proofs.Common.{sym, ap, ◌∙◌}
use Rattle.kak_world.specs.Flat.{rest_of, turn_of}
use Rattle.kak_world.specs.Seen.{Kept}
use Rattle.kak_world.proofs.StoredLemmas.{stands-begun, flat-begun}
use Rattle.kak_world.proofs.stepping.World+P+AnyTurn.into_step.Goals as goal

pub begin_where-requires : goal.begin_where-requires
begin_where-requires g c = c.self.invariant.calm

pub invariant_of-result : goal.invariant_of-result
unfolding rest_of
invariant_of-result g c = stands-begun _ _ c.args.who _ _ _ _ _ _ _ c.requires.began (ap (λ (k : Kept). k.stored) (sym c.self.view_is)) (ap (λ (k : Kept). turn_of k.flat) c.self.view_is ∙ c.requires.nobody) c.begin_where.ensures c.self.invariant

pub returns : goal.returns
returns g c = flat-begun _ _ _ _ _ c.self.view_is c.begin_where.ensures
