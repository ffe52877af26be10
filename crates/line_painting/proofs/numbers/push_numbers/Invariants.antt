-- The numbers before the k-th were added.
use Rattle.std.proofs.Common.{◌≡◌, map, take}
use Rattle.std.specs.Prelude.{flat_map}
use Rattle.line_painting.specs.Atoms.{with_all_shown}
use Rattle.line_painting.specs.Lines.{number_cells}
use Rattle.highlight_paint.specs.Numbers.{numbering}
use Rattle.line_painting.proofs.numbers.push_numbers.Given as goal

abbrev pub invariant-loop-k : goal.invariant-loop-k
invariant-loop-k l = l.atoms.atoms
    ≡ with_all_shown l.fn.atoms.atoms (flat_map (number_cells l.scene.palette.now l.scene.cursor_line l.lines l.n) (take l.k (map numbering l.scene.numbers.now)))
