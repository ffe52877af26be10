use Rattle.std.proofs.Common.{rules, length, ap, sym}
use Rattle.std.proofs.lemmas.Str.{chars_from_encodes, chars-IsAscii}
use Rattle.kak_registers.proofs.registers.char_len.Goals as goal

pub returns-then-is_ascii : goal.returns-then-is_ascii
returns-then-is_ascii c = sym (ap length (chars-IsAscii c.args.text.now c.if-is_ascii.ensures.cases))

pub returns : goal.returns
returns c = search (rules, chars_from_encodes)
