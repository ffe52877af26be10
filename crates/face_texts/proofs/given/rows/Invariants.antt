use Rattle.std.proofs.Common.{◌≡◌, map, take}
use Rattle.face_texts.specs.Given.{standard_row}
use Rattle.face_texts.proofs.given.rows.Given as goal

abbrev pub invariant-loop-face : goal.invariant-loop-face
invariant-loop-face l = l.rows.items ≡ map standard_row (take l.face-index l.faces)
