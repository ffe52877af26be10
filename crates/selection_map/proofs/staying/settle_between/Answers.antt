use Rattle.selection_map.proofs.PartLemmas.{apart-settled}
use Rattle.selection_map.proofs.staying.settle_between.Goals as goal

pub returns-then-end_before_next : goal.returns-then-end_before_next
returns-then-end_before_next c = record {
  settles = λ text inside order. apart-settled text c.args.sels.now c.end_before_next.ensures.valid.main_is (c.end_before_next.ensures.apart c.if-end_before_next.true) inside order;
}
