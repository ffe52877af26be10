use Rattle.std.proofs.Common.{◌≡◌, ◌++◌, take, string_bytes, encode_utf8_all}
use Rattle.compact_chars.proofs.lent.push_narrow.Given as goal

-- the characters so far were added
abbrev pub invariant-loop-b : goal.invariant-loop-b
invariant-loop-b l = string_bytes l.text ≡ string_bytes l.fn.text ++ encode_utf8_all (take l.b-index l.bytes)
