use Rattle.std.proofs.Common.{sym, ap, ◌∙◌, None, arith}
use Rattle.kak_world.specs.Seen.{Kept, slot_seen, all_seen}
use Rattle.kak_world.specs.Saving.{unsaved_behind}
use Rattle.kak_world.proofs.SavingLemmas.{unsaved-next, unsaved-end}
use Rattle.kak_world.proofs.KeptLemmas.{seen-length, seen-at}
use Rattle.kak_world.proofs.world.World.unsaved_names.Goals as goal

pub loop-slot-preserved : goal.loop-slot-preserved
loop-slot-preserved g c = unsaved-next c.loop-slot.names _ (slot_seen c.slot-item.result) (all_seen c.deref-slot-items.result.now) c.loop-slot.slot-index (omega (arith, c.loop-slot-test.true, seen-length c.deref-slot-items.result.now)) (seen-at c.deref-slot-items.result.now c.loop-slot.slot-index c.slot-item.result c.slot-item.is) c.in_ok-names.ensures ∙ c.loop-slot.invariant

pub returns : goal.returns
returns g c =
    sym (unsaved-end c.loop-slot.names (all_seen c.deref-slot-items.result.now) _ (omega (arith, c.loop-slot-test.false, seen-length c.deref-slot-items.result.now))) ∙ c.loop-slot.invariant ∙ ap (λ bs. unsaved_behind None (all_seen bs)) c.deref-slot-items.ensures.value
    ∙ ap (λ (k : Kept). unsaved_behind None k.flat.buffers) c.self.view_is
