use Rattle.std.proofs.Common.{◌≡◌, ◌+◌, drop}
use Rattle.kak_faces.specs.Standard.{no_attributes}
use Rattle.face_texts.specs.Letters.{letters_from}
use Rattle.face_texts.proofs.letters.attributes_at.Given as goal

abbrev pub invariant-loop-i : goal.invariant-loop-i
invariant-loop-i l = letters_from l.have (l.at + l.i) (drop l.i l.letters) ≡ letters_from no_attributes l.at l.letters
