use Rattle.std.proofs.Common.{◌≡◌, ◌++◌, drop, string_bytes}
use Rattle.std.specs.List.{join_with_byte}
use Rattle.kak_words.proofs.ExpandingLemmas.{joined_behind}
use Rattle.kak_words.proofs.expanding.push_joined.Given as goal

abbrev pub invariant-loop-n : goal.invariant-loop-n
invariant-loop-n l =
    string_bytes l.out ++ joined_behind (drop l.n l.strings) ≡ string_bytes l.fn.out ++ join_with_byte 32 l.strings
