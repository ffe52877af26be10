-- The column so far is that behind the name and the characters so far.
use Rattle.std.proofs.Common.{◌≡◌, take}
use Rattle.draw_model.specs.Drawings.{prompt_column}
use Rattle.draw_model.proofs.drawing.prompt_cursor.Given as goal

abbrev pub invariant-loop-c : goal.invariant-loop-c
invariant-loop-c l = l.column ≡ prompt_column l.tabstop.columns l.fn.purpose (take l.c-index l.before)
