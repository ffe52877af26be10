use Rattle.std.proofs.Common.{arith}
use Rattle.edit_ops.proofs.SpanLemmas.{numbers-pushed}
use Rattle.edit_ops.proofs.spans.push_between.Goals as goal

pub loop-n-preserved : goal.loop-n-preserved
loop-n-preserved c = record {
  so_far = numbers-pushed c.args.numbers.now.items c.loop-n.numbers.items c.push.new.self.items c.args.from c.loop-n.n c.loop-n.auto.n c.loop-n.invariant.so_far c.in_ok-push.ensures.items;
  within = omega (arith, c.loop-n-test.true, c.loop-n.auto.n);
}
