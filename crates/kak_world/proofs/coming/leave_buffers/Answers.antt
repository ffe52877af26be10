use Rattle.std.proofs.Common.{◌≡◌, ◌<◌, ◌≤◌, ◌+◌, length, ap, sym, ◌∙◌, arith, set, get_or, refl}
use Rattle.std.specs.Prelude.{option_map}
use Rattle.std.specs.declared.option.Option.{Option}
use Rattle.selection_map.proofs.FrontLemmas.{mapped_front, front-length, front-at, front-step, front-all}
use Rattle.kak_world.specs.Flat.{Buffer, left_behind}
use Rattle.kak_world.specs.Seen.{slot_seen, all_seen}
use Rattle.kak_world.proofs.KeptLemmas.{seen-length, seen-set, seen-at}
use Rattle.kak_world.proofs.StoredLemmas.{leave-same, leave-after, leave-set}
use Rattle.list_shelf.specs.declared.holder.Holder.TheVariants.{Of}
use Rattle.kak_world.proofs.coming.leave_buffers.Goals as goal

pub loop-n-preserved : goal.loop-n-preserved
loop-n-preserved c =
    let f : Option Buffer → Option Buffer = option_map (left_behind c.args.who) in
    let bs = all_seen c.args.buffers.now.items in
    let slot = slot_seen c.index_mut.result.now in
    let below : c.loop-n.n < length bs = omega (arith, c.loop-n-test.true, c.len-n-end.ensures, c.args.buffers.now.ok.0, seen-length c.args.buffers.now.items) in
    let front : all_seen (set c.loop-n.buffers.items c.loop-n.n c.leave_buffer.new.slot) ≡ mapped_front (c.loop-n.n + 1) f bs =
    seen-set _ _ _
    ∙ ap (λ xs. set xs c.loop-n.n (slot_seen c.leave_buffer.new.slot)) c.loop-n.invariant.front
    ∙ front-step c.loop-n.n f bs (slot_seen c.leave_buffer.new.slot) slot below
    (c.leave_buffer.ensures.seen ∙ ap f (seen-at c.loop-n.buffers.items c.loop-n.n c.index_mut.result.now c.index_mut.ensures.value ∙ ap (λ xs. get_or xs c.loop-n.n slot) c.loop-n.invariant.front ∙ front-at c.loop-n.n f bs slot)) in
    record {
      front = front;
      count = sym (seen-length _) ∙ ap length front ∙ front-length (c.loop-n.n + 1) f bs ∙ seen-length c.args.buffers.now.items;
      leaves = leave-after (Of c.args.who) _ _ _ c.loop-n.invariant.leaves (leave-set (Of c.args.who) _ _ _ _ c.index_mut.ensures.value c.leave_buffer.ensures.leaves);
    }

pub loop-n-init : goal.loop-n-init
loop-n-init c = record { front = refl; count = refl; leaves = leave-same (Of c.args.who) c.args.buffers.now.items }

pub returns-clause-leaves : goal.returns-clause-leaves
returns-clause-leaves c = c.loop-n.invariant.leaves

pub returns-clause-seen : goal.returns-clause-seen
returns-clause-seen c =
    let past : length (all_seen c.args.buffers.now.items) ≤ c.loop-n.n = omega (arith, c.loop-n-test.false, c.len-n-end.ensures, c.args.buffers.now.ok.0, seen-length c.args.buffers.now.items) in
    c.loop-n.invariant.front ∙ front-all c.loop-n.n (option_map (left_behind c.args.who)) (all_seen c.args.buffers.now.items) past
