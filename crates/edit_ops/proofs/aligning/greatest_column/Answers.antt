use Rattle.std.proofs.Common.{arith}
use Rattle.selection_set.proofs.HeldLemmas.{zero_sel}
use Rattle.edit_ops.proofs.AligningLemmas.{greatest-next, greatest-none, greatest-of}
use Rattle.edit_ops.proofs.aligning.greatest_column.Goals as goal

pub loop-sel-preserved : goal.loop-sel-preserved
loop-sel-preserved c =
    let next = greatest-next c.args.lines.now c.args.tabstop.columns c.args.sels.now c.loop-sel.sel-index zero_sel c.loop-sel-test.true in
    greatest-of c.loop-sel.last c.column_of-column.result _ _ c.max-last.result _ _ c.loop-sel.invariant next c.column_of-column.ensures c.max-last.ensures

pub returns : goal.returns
returns c = omega (arith, c.loop-sel.invariant, greatest-none c.args.lines.now c.args.tabstop.columns c.args.sels.now c.loop-sel.sel-index c.loop-sel-test.false)
