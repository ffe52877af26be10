use Rattle.std.proofs.Common.{subst}
use Rattle.std.specs.List.{AllByRecursion}
use Rattle.kak_world.specs.Settled.{SlotIsSettled, AllListsSettled}
use Rattle.kak_world.specs.Seen.{Kept, KeptIsSettled}
use Rattle.kak_world.proofs.StandingLemmas.{all-seen}
use Rattle.kak_world.proofs.world.World.lists_are_held.Goals as goal

pub returns : goal.returns
returns g c = subst (λ (k : Kept). AllListsSettled k.flat) c.self.view_is (all-seen SlotIsSettled c.self.inside.buffers.items (subst (AllByRecursion KeptIsSettled) c.as_slice.ensures.value c.all_are_settled.ensures))
