use Rattle.std.proofs.Common.{ap, ◌∙◌}
use Rattle.kak_world.specs.Flat.{Buffer, text_of}
use Rattle.kak_world.proofs.world.World.lines.Goals as goal

pub returns : goal.returns
unfolding text_of
returns g c = c.lines.ensures ∙ ap (λ (b : Buffer). b.story.text) c.shown.ensures.seen
