use Rattle.std.proofs.Common.{◌≡◌, ◌≤◌, take, length}
use Rattle.text_model.specs.declared.TheConstants.{MAX_CHARS}
use Rattle.text_model.specs.Texts.{lines_of, joined}
use Rattle.line_buffer.proofs.lines.Lines.offset_of.Given as goal

-- the lines so far were counted
abbrev pub invariant-loop-n : goal.invariant-loop-n
invariant-loop-n l = record { counted : l.start ≡ length (joined (take l.n (lines_of l.self))); small : l.start ≤ MAX_CHARS }
