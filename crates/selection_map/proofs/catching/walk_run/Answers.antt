use Rattle.std.proofs.Common.{arith}
use Rattle.selection_map.proofs.RunLemmas.{longer-whole}
use Rattle.selection_map.proofs.CatchLemmas.{can-walk}
use Rattle.selection_map.proofs.catching.walk_run.Goals as goal

pub walk_part-low-requires-clause-can : goal.walk_part-low-requires-clause-can
walk_part-low-requires-clause-can g c = can-walk _ c.args.shifts.now c.run_length-falling.result c.args.sels.now.list c.requires.can c.run_length-falling.ensures.run

pub walk_part-low-requires-2-clause-can : goal.walk_part-low-requires-2-clause-can
walk_part-low-requires-2-clause-can g c = can-walk _ c.args.shifts.now c.run_length-rising.result c.args.sels.now.list c.requires.can c.run_length-rising.ensures.run

pub returns-then-rising-falling-clause-whole : goal.returns-then-rising-falling-clause-whole
returns-then-rising-falling-clause-whole g c = λ way r.
    longer-whole way c.args.shifts.now c.run_length-rising.result c.run_length-falling.result c.run_length-falling.result
    (record { some = c.run_length-rising.ensures.some; few = c.run_length-rising.ensures.few; longest = c.run_length-rising.ensures.longest })
    (record { some = c.run_length-falling.ensures.some; few = c.run_length-falling.ensures.few; longest = c.run_length-falling.ensures.longest })
    (omega (arith, c.if-rising-falling.true)) (omega arith) c.run_length-falling.ensures.few r

pub returns-clause-whole : goal.returns-clause-whole
returns-clause-whole g c = λ way r.
    longer-whole way c.args.shifts.now c.run_length-rising.result c.run_length-falling.result c.run_length-rising.result
    (record { some = c.run_length-rising.ensures.some; few = c.run_length-rising.ensures.few; longest = c.run_length-rising.ensures.longest })
    (record { some = c.run_length-falling.ensures.some; few = c.run_length-falling.ensures.few; longest = c.run_length-falling.ensures.longest })
    (omega arith) (omega (arith, c.if-rising-falling.false)) c.run_length-rising.ensures.few r
