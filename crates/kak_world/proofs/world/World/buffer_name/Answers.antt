use Rattle.std.proofs.Common.{ap, ◌∙◌}
use Rattle.kak_world.specs.Flat.{Buffer, name_of}
use Rattle.kak_world.proofs.world.World.buffer_name.Goals as goal

pub returns : goal.returns
unfolding name_of
returns g c = c.name.ensures ∙ ap (λ (b : Buffer). b.name) c.shown.ensures.seen
