-- The characters gone over are plain.
use Rattle.std.proofs.Common.{false, take}
use Rattle.std.specs.List.{AllByRecursion}
use Rattle.compact_chars.specs.Rows.{chars_of}
use Rattle.line_painting.specs.Laws.{IsPlainChar}
use Rattle.line_painting.proofs.stretches.plain_chars.Given as goal

abbrev pub invariant-loop-i : goal.invariant-loop-i
invariant-loop-i l = AllByRecursion (IsPlainChar false) (take l.i (chars_of l.chars))
