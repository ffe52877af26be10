use Rattle.std.proofs.Common.{arith}
use Rattle.std.proofs.lemmas.Bool.{false≢true}
use Rattle.selection_set.specs.Inside.{IsInside}
use Rattle.selection_set.proofs.HeldLemmas.{zero_sel, all-at}
use Rattle.list_keys.specs.Copies.{copy_of}
use Rattle.list_keys.proofs.EachLemmas.{made-step, inside-step, made-room}
use Rattle.list_keys.proofs.copying.push_copies.Goals as goal

pub copy-requires : goal.copy-requires
copy-requires c = all-at (IsInside c.args.lines.now) c.args.sels.now c.loop-sel.sel-index zero_sel c.loop-sel-test.true c.requires.inside

pub returns-in_err-push_copy-clause-few : goal.returns-in_err-push_copy-clause-few
returns-in_err-push_copy-clause-few c = λ h.
    absurd (false≢true (c.in_err-push_copy.ensures.few
    (made-room c.args.lines.now (copy_of c.args.direction c.args.lines.now) c.args.sels.now c.loop-sel.sel-index c.copy.result c.args.list.now.items c.loop-sel.list.items c.loop-sel.list.capacity c.loop-sel-test.true c.copy.ensures.copies c.loop-sel.invariant.ranges (omega (arith, h, c.loop-sel.invariant.capacity)))))

pub loop-sel-preserved : goal.loop-sel-preserved
loop-sel-preserved c = record {
  ranges = made-step c.args.lines.now (copy_of c.args.direction c.args.lines.now) c.args.sels.now c.loop-sel.sel-index c.copy.result c.args.list.now.items c.loop-sel.list.items _ c.loop-sel-test.true c.copy.ensures.copies c.in_ok-push_copy.ensures.items c.loop-sel.invariant.ranges;
  inside = inside-step c.args.lines.now c.copy.result c.loop-sel.list.items _ c.loop-sel.invariant.inside c.copy.ensures.inside c.in_ok-push_copy.ensures.items;
  capacity = omega (arith, c.loop-sel.invariant.capacity, c.push_copy.ensures.capacity);
}
