use Rattle.std.proofs.Common.{ap, ◌∙◌}
use Rattle.undo_model.specs.Stories.{committed}
use Rattle.kak_world.specs.Flat.{Buffer, node_number_of, story_of}
use Rattle.kak_world.proofs.world.World.node.Goals as goal

pub returns-clause-value : goal.returns-clause-value
unfolding node_number_of story_of
returns-clause-value g c = c.node.ensures.value ∙ ap (λ (b : Buffer). (committed b.story).current) c.shown.ensures.seen
