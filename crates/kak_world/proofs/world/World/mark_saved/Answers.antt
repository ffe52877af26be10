use Rattle.std.proofs.Common.{arith, ◌∙◌}
use Rattle.kak_world.specs.Seen.{all_seen}
use Rattle.kak_world.proofs.ShowingLemmas.{there-slot, set-slot}
use Rattle.kak_world.proofs.SavingLemmas.{now-saved}
use Rattle.kak_world.proofs.KeptLemmas.{seen-length, seen-set, seen-at, slot-changed_by}
use Rattle.kak_world.proofs.StandingLemmas.{stands-seen}
use Rattle.kak_world.proofs.world.World.mark_saved.Goals as goal

pub index_mut-requires : goal.index_mut-requires
index_mut-requires g c = omega (arith, there-slot c.args.n _ _ _ _ c.self.view_is c.requires, seen-length c.self.inside.buffers.items, c.self.inside.buffers.ok.0)

pub invariant_of-self : goal.invariant_of-self
invariant_of-self g c = stands-seen _ _ _ _ c.args.n _ _ _ c.index_mut.ensures.value c.mark_saved_in.ensures c.self.invariant

pub returns : goal.returns
returns g c = now-saved c.args.n _ _ _ _ _ c.self.view_is (seen-set _ _ _ ∙ set-slot c.args.n _ (all_seen c.self.inside.buffers.items) _ _ (seen-at c.self.inside.buffers.items c.args.n _ c.index_mut.ensures.value) (slot-changed_by _ _ _ c.mark_saved_in.ensures))
