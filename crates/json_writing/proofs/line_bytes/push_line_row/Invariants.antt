use Rattle.std.proofs.Common.{◌≡◌, ◌++◌, map, take}
use Rattle.json_writing.specs.Grows.{Grows}
use Rattle.json_writing.specs.JsonText.{separated}
use Rattle.json_writing.specs.Drawings.{line_text}
use Rattle.json_writing.proofs.line_bytes.push_line_row.Given as goal

abbrev pub invariant-loop-i : goal.invariant-loop-i
invariant-loop-i l =
    (l.out.items ≡ l.fn.out.items ++ separated (map line_text (take l.i l.lines))) × Grows l.fn.out.items l.out.items
