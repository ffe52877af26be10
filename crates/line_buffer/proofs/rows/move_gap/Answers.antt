use Rattle.std.proofs.Common.{arith}
use Rattle.std.proofs.lemmas.Result.{on_ok_weaker}
use Rattle.line_buffer.proofs.RowLemmas.{other_side, gap_at}
use Rattle.line_buffer.proofs.rows.move_gap.Goals as goal

pub returns-clause-same : goal.returns-clause-same
returns-clause-same c = other_side c.pour-2.new.onto.items c.pour-2.new.from.items c.args.front.now.items c.args.back.now.items c.pour-2.ensures.same

pub returns-clause-moved : goal.returns-clause-moved
returns-clause-moved c =
    on_ok_weaker c.pour-2.result
    (λ e. gap_at c.pour-2.new.onto.items c.pour-2.new.from.items c.args.front.now.items c.args.back.now.items c.args.to (returns-clause-same c)
    (omega (arith, e, c.len-2.ensures, c.len-3.ensures, c.args.front.now.ok.0, c.args.back.now.ok.0))
    (omega (arith, c.if-to-len.false, c.len.ensures, c.args.front.now.ok.0)) c.requires)
    c.pour-2.ensures.moved
