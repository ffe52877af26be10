use Rattle.std.proofs.Common.{◌++◌, reverse, length, option_to_list, ap, ◌∙◌, arith}
use Rattle.line_buffer.proofs.RowLemmas.{one_poured}
use Rattle.line_buffer.proofs.rows.pour.Goals as goal

pub loop-init : goal.loop-init
loop-init c = record {
  same = ap (λ t. c.args.from.now.items ++ reverse t) c.in_ok-reserve.ensures.items;
  moved = omega arith;
  room = omega (arith, c.in_ok-reserve.ensures.ok);
}

pub push_reserved-requires : goal.push_reserved-requires
push_reserved-requires c = omega (arith, c.loop.invariant.room, c.loop-test.true)

pub loop-preserved : goal.loop-preserved
loop-preserved c = record {
  same = one_poured c.loop.from.items c.pop.new.self.items c.loop.onto.items c.push_reserved.new.self.items c.unwrap.result (c.pop.ensures.items ∙ ap (λ x. c.pop.new.self.items ++ option_to_list x) c.unwrap.ensures) c.push_reserved.ensures.items
      ∙ c.loop.invariant.same;
  moved = omega (arith, c.loop.invariant.moved, ap (λ x. length (option_to_list x)) c.unwrap.ensures, c.pop.ensures.len, c.pop.new.self.ok.0, c.loop.from.ok.0);
  room = omega (arith, c.loop.invariant.room, c.loop-test.true, c.push_reserved.ensures.len, c.push_reserved.ensures.capacity);
}

pub returns-clause-same : goal.returns-clause-same
returns-clause-same c = c.loop.invariant.same

pub returns-clause-moved : goal.returns-clause-moved
returns-clause-moved c = omega (arith, c.loop.invariant.moved, c.loop-test.false, c.loop.auto.counter-end, c.len.ensures, c.args.from.now.ok.0, c.requires)
