use Rattle.std.proofs.Common.{refl, ◌∙◌}
use Rattle.std.proofs.lemmas.List.{length-set}
use Rattle.selection_set.specs.declared.order.Numbered.{Numbered}
use Rattle.selection_set.proofs.HeldLemmas.{zero_sel}
use Rattle.selection_set.proofs.OrderLemmas.{sel_alone}
use Rattle.selection_set.proofs.InOrderLemmas.{put-more, put-all}
use Rattle.selection_set.proofs.order.put_back.Goals as goal

pub loop-i-preserved : goal.loop-i-preserved
loop-i-preserved c =
    let d : Numbered = record { sel = zero_sel; number = 0 } in
    record {
      front = put-more sel_alone c.args.all.now c.args.list.now c.loop-i.list c.loop-i.i _ d c.requires c.loop-i-test.true refl c.loop-i.invariant.front;
      count = length-set c.loop-i.list c.loop-i.i _ ∙ c.loop-i.invariant.count;
    }

pub returns : goal.returns
returns c = put-all sel_alone c.args.all.now c.args.list.now c.loop-i.list c.loop-i.i c.requires c.loop-i-test.false c.loop-i.invariant.front
