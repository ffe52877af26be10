use Rattle.std.proofs.Common.{◌≡◌, ◌+◌, ◌≤◌, take}
use Rattle.text_model.specs.Coords.{reached}
use Rattle.edit_ops.proofs.passing.walked.Given as goal

-- what was gone over so far, and how far that can be
abbrev pub invariant-loop-c : goal.invariant-loop-c
invariant-loop-c l = record {
  so_far : l.at ≡ reached l.fn.from (take l.c-index l.chars);
  line : l.at.line ≤ l.fn.from.line + l.c-index;
  column : l.at.column ≤ l.fn.from.column + l.c-index;
}
