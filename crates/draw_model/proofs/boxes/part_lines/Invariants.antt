-- The lines of the parts gone over are made.
use Rattle.draw_model.proofs.BoxLemmas.{ArePartsMade}
use Rattle.draw_model.proofs.boxes.part_lines.Given as goal

abbrev pub invariant-loop-i : goal.invariant-loop-i
invariant-loop-i l = ArePartsMade l.fn.face l.text l.lines l.from l.i
