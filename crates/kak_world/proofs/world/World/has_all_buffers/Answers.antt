use Rattle.std.proofs.Common.{ap, ◌∙◌}
use Rattle.std.specs.Prelude.{◌==◌}
use Rattle.kak_world.specs.Seen.{Kept, all_seen}
use Rattle.kak_world.specs.Showing.{first_gap, buffer_count}
use Rattle.kak_world.proofs.GapLemmas.{full-by}
use Rattle.kak_world.proofs.world.World.has_all_buffers.Goals as goal

pub returns : goal.returns
returns g c =
    full-by (all_seen c.self.inside.buffers.items) c.first_gap.result c.self.invariant.has.few (c.first_gap.ensures ∙ ap (λ bs. first_gap (all_seen bs)) c.as_slice.ensures.value)
    ∙ ap (λ (k : Kept). buffer_count k.flat.buffers == 1024) c.self.view_is
