use Rattle.std.proofs.Common.{◌≡◌, drop}
use Rattle.face_texts.specs.Tables.{text_named}
use Rattle.face_texts.proofs.rows.text_named.Given as goal

abbrev pub invariant-loop-row : goal.invariant-loop-row
invariant-loop-row l = text_named (drop l.row-index l.rows) l.name ≡ text_named l.rows l.name
