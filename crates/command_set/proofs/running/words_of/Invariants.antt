use Rattle.std.proofs.Common.{◌≡◌, take, map, string_bytes}
use Rattle.command_set.proofs.running.words_of.Given as goal

abbrev pub invariant-loop-word : goal.invariant-loop-word
invariant-loop-word l = map (λ w. string_bytes w) l.copies.items ≡ map (λ w. string_bytes w) (take l.word-index l.words)
