use Rattle.std.proofs.Common.{◌≡◌, ◌++◌, take, encode_utf8_all}
use Rattle.compact_chars.specs.Rows.{chars_of}
use Rattle.text_coding.proofs.encoding.with_chars.Given as goal

abbrev pub invariant-loop-i : goal.invariant-loop-i
invariant-loop-i l = l.bytes.items ≡ l.fn.bytes.items ++ encode_utf8_all (take l.i (chars_of l.chars))
