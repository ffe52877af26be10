use Rattle.std.proofs.Common.{length, ap, ◌∙◌, arith, length-append}
use Rattle.std.specs.Prelude.{option_to_list}
use Rattle.selection_set.specs.Inside.{IsInside}
use Rattle.selection_set.proofs.HeldLemmas.{zero_sel, all-at}
use Rattle.list_keys.specs.Cuts.{cut_by}
use Rattle.list_keys.proofs.EachLemmas.{made-step, inside-step, found-few}
use Rattle.list_keys.proofs.dropping.push_cuts.Goals as goal

pub cut_sel-requires : goal.cut_sel-requires
cut_sel-requires c = all-at (IsInside c.args.lines.now) c.args.sels.now c.loop-sel.sel-index zero_sel c.loop-sel-test.true c.requires.inside

pub push_found-requires : goal.push_found-requires
push_found-requires c = omega (arith, c.requires.room, c.loop-sel.invariant.capacity, c.loop-sel.invariant.count, found-few c.cut_sel.result, c.loop-sel-test.true)

pub loop-sel-preserved : goal.loop-sel-preserved
loop-sel-preserved c = record {
  ranges = made-step c.args.lines.now (cut_by c.args.how c.args.lines.now) c.args.sels.now c.loop-sel.sel-index c.cut_sel.result c.args.list.now.items c.loop-sel.list.items _ c.loop-sel-test.true c.cut_sel.ensures.cuts c.push_found.ensures.items c.loop-sel.invariant.ranges;
  inside = inside-step c.args.lines.now c.cut_sel.result c.loop-sel.list.items _ c.loop-sel.invariant.inside c.cut_sel.ensures.inside c.push_found.ensures.items;
  count = omega (arith, c.loop-sel.invariant.count, ap length c.push_found.ensures.items, length-append c.loop-sel.list.items (option_to_list c.cut_sel.result), found-few c.cut_sel.result);
  capacity = c.push_found.ensures.capacity ∙ c.loop-sel.invariant.capacity;
}
