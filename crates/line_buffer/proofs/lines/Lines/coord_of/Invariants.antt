use Rattle.std.proofs.Common.{◌≡◌, ◌+◌, take, length}
use Rattle.text_model.specs.Texts.{lines_of, joined}
use Rattle.line_buffer.proofs.lines.Lines.coord_of.Given as goal

-- what is left behind the lines so far
abbrev pub invariant-loop-n : goal.invariant-loop-n
invariant-loop-n l = length (joined (take l.n (lines_of l.self))) + l.rest ≡ l.fn.place
