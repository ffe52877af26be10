use Rattle.std.proofs.Common.{◌≡◌, ◌++◌, take, encode_utf8_all}
use Rattle.text_model.specs.Texts.{joined, lines_of}
use Rattle.text_coding.specs.Coding.{mark_of, to_form}
use Rattle.text_coding.proofs.encoding.encode.Given as goal

abbrev pub invariant-loop-n : goal.invariant-loop-n
invariant-loop-n l = l.bytes.items ≡ mark_of l.fn.bom ++ encode_utf8_all (to_form l.eol (joined (take l.n (lines_of l.lines))))
