use Rattle.std.proofs.Common.{◌≡◌, ◌++◌, take, string_bytes, encode_utf8_all}
use Rattle.compact_chars.proofs.lent.push_wide.Given as goal

-- the characters so far were added
abbrev pub invariant-loop-c : goal.invariant-loop-c
invariant-loop-c l = string_bytes l.text ≡ string_bytes l.fn.text ++ encode_utf8_all (take l.c-index l.chars)
