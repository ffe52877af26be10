-- The characters that were collected are those that the bytes spell, which are the bytes where these are ASCII.
use Rattle.std.proofs.Common.{rules, ◌∙◌, sym}
use Rattle.std.proofs.lemmas.Str.{chars_from_encodes, chars-IsAscii}
use Rattle.kak_text.proofs.chars.Chars.from_str.Goals as goal

pub returns-then-is_ascii : goal.returns-then-is_ascii
returns-then-is_ascii c =
    c.of_vec.ensures ∙ c.in_ok-widened.ensures ∙ c.as_bytes.ensures.value ∙ sym (chars-IsAscii c.args.text.now c.if-is_ascii.ensures.cases)

pub returns : goal.returns
returns c = search (rules, chars_from_encodes)
