use Rattle.std.proofs.Common.{true, false, refl, sym, ◌∙◌, arith}
use Rattle.selection_set.proofs.HeldLemmas.{zero_sel}
use Rattle.selection_set.proofs.InOrderLemmas.{order-goes_on, order-holds}
use Rattle.selection_set.proofs.order.is_in_order.Goals as goal

pub loop-i-preserved : goal.loop-i-preserved
loop-i-preserved c = record {
  some = omega arith;
  front = order-goes_on c.args.list.now c.loop-i.i _ _ zero_sel c.loop-i.invariant.some c.loop-i-test.true refl refl (sym c.is_at_most.ensures ∙ c.if-not-is_at_most.false) c.loop-i.invariant.front;
}

pub returns : goal.returns
returns c = order-holds c.args.list.now c.loop-i.i c.loop-i.invariant.some (omega (arith, c.loop-i-test.false)) c.loop-i.invariant.front
