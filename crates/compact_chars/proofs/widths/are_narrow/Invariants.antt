use Rattle.std.proofs.Common.{◌≡◌, false, take}
use Rattle.std.specs.Prelude.{IsTrue}
use Rattle.compact_chars.specs.Rows.{AreNarrow, HasWide}
use Rattle.compact_chars.proofs.widths.are_narrow.Given as goal

abbrev pub invariant-loop-c : goal.invariant-loop-c
invariant-loop-c l = record {
  narrow : IsTrue l.narrow → AreNarrow (take l.c-index l.chars);
  wide : l.narrow ≡ false → HasWide l.chars;
}
