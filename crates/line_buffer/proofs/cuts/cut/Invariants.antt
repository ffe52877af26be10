use Rattle.std.proofs.Common.{◌≡◌, ℕ, ◌<◌, ◌≤◌, ◌++◌, get_or, drop, ◌≢◌}
use Rattle.text_model.specs.Texts.{lines_of}
use Rattle.line_buffer.proofs.cuts.cut.Given as goal

-- the lines so far and those of the rest are the lines of the text, and no newline was passed since the last line
abbrev pub invariant-loop-i : goal.invariant-loop-i
invariant-loop-i l = record {
  behind : l.start ≤ l.i;
  lines : l.lines.items ++ lines_of (drop l.start l.text) ≡ lines_of l.text;
  none : (k : ℕ) → l.start ≤ k → k < l.i → get_or l.text k 0 ≢ 10;
}
