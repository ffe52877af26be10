use Rattle.std.proofs.Common.{ap, sym, ◌∙◌, arith}
use Rattle.kak_world.specs.Saving.{number_named, buffer_number_from}
use Rattle.kak_world.specs.Seen.{Kept, slot_seen, all_seen}
use Rattle.kak_world.proofs.SavingLemmas.{named-here, named-on}
use Rattle.kak_world.proofs.KeptLemmas.{seen-length, seen-at}
use Rattle.kak_world.proofs.world.World.number_named.Goals as goal

pub returns-then-is_named-clause-value : goal.returns-then-is_named-clause-value
returns-then-is_named-clause-value g c =
    sym (named-here c.args.name.now (all_seen c.deref-slot-items.result.now) c.loop-n.n (slot_seen c.slot-item.result) (omega (arith, c.loop-n-test.true, seen-length c.deref-slot-items.result.now))
    (seen-at c.deref-slot-items.result.now c.loop-n.n c.slot-item.result c.slot-item.is) (sym c.is_named.ensures ∙ c.if-is_named.true))
    ∙ c.loop-n.invariant
    ∙ ap (λ bs. buffer_number_from 0 c.args.name.now (all_seen bs)) c.deref-slot-items.ensures.value
    ∙ ap (λ (k : Kept). number_named c.args.name.now k.flat) c.self.view_is

pub loop-n-preserved : goal.loop-n-preserved
loop-n-preserved g c =
    sym (named-on c.args.name.now (all_seen c.deref-slot-items.result.now) c.loop-n.n (slot_seen c.slot-item.result) (omega (arith, c.loop-n-test.true, seen-length c.deref-slot-items.result.now))
    (seen-at c.deref-slot-items.result.now c.loop-n.n c.slot-item.result c.slot-item.is) (sym c.is_named.ensures ∙ c.if-is_named.false))
    ∙ c.loop-n.invariant
