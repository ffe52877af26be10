use Rattle.std.proofs.Common.{◌≡◌, take}
use Rattle.text_model.specs.Texts.{lines_of, joined}
use Rattle.line_buffer.proofs.lines.Lines.to_text.Given as goal

-- the lines so far were added
abbrev pub invariant-loop-n : goal.invariant-loop-n
invariant-loop-n l = l.all.items ≡ joined (take l.n (lines_of l.self))
