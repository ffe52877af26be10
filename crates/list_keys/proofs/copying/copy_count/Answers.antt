use Rattle.std.proofs.Common.{arith}
use Rattle.list_keys.specs.Copies.{copy_of}
use Rattle.list_keys.proofs.EachLemmas.{made-counted, made-uncounted}
use Rattle.list_keys.proofs.copying.copy_count.Goals as goal
use Rattle.list_keys.proofs.copying.copy_count.Goals.{then-is_some, else-is_some}

pub loop-sel-preserved : goal.loop-sel-preserved
loop-sel-preserved c =
    elim c.if-is_some.branch [
      | then-is_some w ↦ record {
        value = omega (arith, w.count-is, c.loop-sel.invariant.value, made-counted c.args.lines.now (copy_of c.args.direction c.args.lines.now) c.args.sels.now c.loop-sel.sel-index c.copy.result c.is_some.result c.loop-sel-test.true c.copy.ensures.copies c.is_some.ensures w.if-is_some.true);
        few = omega (arith, w.count-is, c.loop-sel.invariant.few);
      }
      | else-is_some w ↦ record {
        value = omega (arith, w.count-is, c.loop-sel.invariant.value, made-uncounted c.args.lines.now (copy_of c.args.direction c.args.lines.now) c.args.sels.now c.loop-sel.sel-index c.copy.result c.is_some.result c.loop-sel-test.true c.copy.ensures.copies c.is_some.ensures w.if-is_some.false);
        few = omega (arith, w.count-is, c.loop-sel.invariant.few);
      }
    ]
