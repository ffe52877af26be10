-- The bytes gone over are plain.
use Rattle.std.proofs.Common.{false, take}
use Rattle.std.specs.List.{AllByRecursion}
use Rattle.line_painting.specs.Laws.{IsPlainChar}
use Rattle.line_painting.proofs.stretches.plain_bytes.Given as goal

abbrev pub invariant-loop-i : goal.invariant-loop-i
invariant-loop-i l = AllByRecursion (IsPlainChar false) (take l.i l.bytes)
