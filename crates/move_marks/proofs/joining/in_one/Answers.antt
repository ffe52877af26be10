use Rattle.std.proofs.Common.{inl, inr}
use Rattle.move_marks.proofs.MergeLemmas.{joining-made}
use Rattle.move_marks.proofs.joining.in_one.Goals as goal
use Rattle.move_marks.proofs.joining.in_one.Goals.{then-loop-i-test+else-j-second, else-loop-i-test}

pub returns-clause-ok : goal.returns-clause-ok
returns-clause-ok c =
    joining-made c.args.first.now c.args.second.now c.loop-i.list.items c.push_all.new.list.items c.push_all-2.new.list.items c.loop-i.i c.loop-i.j
    (elim c.loop-i-test.branch [
      | then-loop-i-test+else-j-second w ↦ inr w.if-j-second.false
      | else-loop-i-test w ↦ inl w.loop-i-test.false
    ])
    c.loop-i.invariant.joining c.push_all.ensures.items c.push_all-2.ensures.items
