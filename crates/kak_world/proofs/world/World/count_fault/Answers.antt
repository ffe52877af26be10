use Rattle.std.proofs.Common.{ap, ◌∙◌}
use Rattle.kak_world.specs.Flat.{is_joined}
use Rattle.kak_world.proofs.WorldLaws.{joined_rest, acts_joined}
use Rattle.kak_world.proofs.world.World.count_fault.Goals as goal

pub own_mut-requires : goal.own_mut-requires
own_mut-requires g c = ap (is_joined c.args.who) c.add_fault.ensures ∙ joined_rest c.args.who _ _ ∙ acts_joined c.args.who _ c.requires
