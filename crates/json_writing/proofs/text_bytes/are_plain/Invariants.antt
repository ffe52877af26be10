use Rattle.std.proofs.Common.{◌≡◌, true, take}
use Rattle.json_writing.specs.JsonText.{ArePlain}
use Rattle.json_writing.proofs.text_bytes.are_plain.Given as goal

abbrev pub invariant-loop-c : goal.invariant-loop-c
invariant-loop-c l = l.plain ≡ true → ArePlain (take l.c-index l.text)
