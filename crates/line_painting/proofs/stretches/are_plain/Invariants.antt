-- The bytes gone over are plain, where none was found that isn't.
use Rattle.std.proofs.Common.{◌≡◌, true, false, take}
use Rattle.std.specs.List.{AllByRecursion}
use Rattle.line_painting.specs.Laws.{IsPlainChar}
use Rattle.line_painting.proofs.stretches.are_plain.Given as goal

abbrev pub invariant-loop-i : goal.invariant-loop-i
invariant-loop-i l = l.plain ≡ true → AllByRecursion (IsPlainChar false) (take l.i l.bytes)
