use Rattle.std.proofs.Common.{◌≡◌, ◌+◌, drop}
use Rattle.face_texts.specs.Colours.{up_to}
use Rattle.face_texts.proofs.colours.up_to.Given as goal

abbrev pub invariant-loop-i : goal.invariant-loop-i
invariant-loop-i l = l.i + up_to l.mark (drop l.i l.text) ≡ up_to l.mark l.text
