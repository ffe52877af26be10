use Rattle.std.proofs.Common.{take}
use Rattle.json_writing.specs.JsonText.{ArePlain}
use Rattle.json_writing.proofs.text_bytes.plain_front.Given as goal

abbrev pub invariant-loop-i : goal.invariant-loop-i
invariant-loop-i l = ArePlain (take l.i l.text)
