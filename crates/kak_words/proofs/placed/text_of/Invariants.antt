use Rattle.std.proofs.Common.{◌≡◌, take, string_bytes}
use Rattle.kak_words.specs.Closing.{text_of}
use Rattle.kak_words.proofs.placed.text_of.Given as goal

abbrev pub invariant-loop-p : goal.invariant-loop-p
invariant-loop-p l = string_bytes l.text ≡ text_of (take l.p-index l.list)
