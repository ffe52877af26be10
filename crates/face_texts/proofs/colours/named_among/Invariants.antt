use Rattle.std.proofs.Common.{◌≡◌, drop}
use Rattle.std.specs.Prelude.{find}
use Rattle.face_texts.specs.Colours.{is_name_of}
use Rattle.face_texts.proofs.colours.named_among.Given as goal

abbrev pub invariant-loop-name : goal.invariant-loop-name
invariant-loop-name l = find (is_name_of l.word) (drop l.name-index l.names) ≡ find (is_name_of l.word) l.names
