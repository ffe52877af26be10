use Rattle.std.proofs.Common.{◌≡◌, ◌^◌, min, drop}
use Rattle.kak_text.specs.Cells.{column_behind}
use Rattle.highlight_paint.proofs.numbers.behind.Given as goal

abbrev pub invariant-loop-c : goal.invariant-loop-c
invariant-loop-c l =
    min (column_behind l.tabstop.columns l.at (drop l.c-index l.chars)) (2 ^ 31) ≡ min (column_behind l.tabstop.columns l.column l.chars) (2 ^ 31)
