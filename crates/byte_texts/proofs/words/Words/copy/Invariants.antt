use Rattle.std.proofs.Common.{◌≡◌, map, take, string_bytes}
use Rattle.byte_texts.proofs.words.Words.copy.Given as goal

abbrev pub invariant-loop-word : goal.invariant-loop-word
invariant-loop-word l = map (λ word. string_bytes word) l.words.items ≡ map (λ word. string_bytes word) (take l.word-index l.word-items)
