use Rattle.std.proofs.Common.{ap, ◌∙◌}
use Rattle.kak_world.specs.Flat.{is_there}
use Rattle.kak_world.proofs.WorldLaws.{acts_joined, joined_there}
use Rattle.command_set.proofs.buffers.drop_buffer.Goals as goal

pub drop_at-requires : goal.drop_at-requires
drop_at-requires g c = ap (λ n. is_there n c.args.world.now.flat.buffers) c.shown_number-n.ensures ∙ joined_there c.args.who c.args.world.now.flat (acts_joined c.args.who c.args.world.now.flat c.requires)
