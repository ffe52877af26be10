use Rattle.line_reading.proofs.TakenLemmas.{more-taken}
use Rattle.line_reading.proofs.reader.LineReader.next.Goals as goal

pub pieces-preserved : goal.pieces-preserved
pieces-preserved g c =
    let m = rw c.if-branch.false at c.in_ok-move_line.ensures in
    record {
      so_far = more-taken _ _ _ _ _ _ _ _ _ c.in-Got.count c.in-Some.room m.0 m.1 c.in-Got.ensures.fills c.in-Some.ensures.some.1 c.in-Some.ensures.some.2 c.fill.ensures.most c.in-Got.ensures.counted c.pieces.invariant.so_far;
      not_given = c.pieces.invariant.not_given;
    }
