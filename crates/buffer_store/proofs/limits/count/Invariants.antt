use Rattle.std.proofs.Common.{◌≡◌, ◌+◌, take, length}
use Rattle.text_model.specs.Texts.{lines_of, joined}
use Rattle.buffer_store.proofs.limits.count.Given as goal

-- the lines so far were counted
abbrev pub invariant-loop-n : goal.invariant-loop-n
invariant-loop-n l = l.all + length (joined (take l.fn.from.line (lines_of l.lines))) ≡ l.fn.to.column + length (joined (take l.n (lines_of l.lines)))
