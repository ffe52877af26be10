use Rattle.std.proofs.Common.{◌≡◌, ◌++◌, drop, string_bytes, encode_utf8_all}
use Rattle.kak_words.specs.Quoting.{doubled}
use Rattle.kak_words.proofs.quoting.push_doubled.Given as goal

abbrev pub invariant-loop-c : goal.invariant-loop-c
invariant-loop-c l =
    string_bytes l.out ++ encode_utf8_all (doubled (drop l.c-index l.word)) ≡ string_bytes l.fn.out ++ encode_utf8_all (doubled l.word)
