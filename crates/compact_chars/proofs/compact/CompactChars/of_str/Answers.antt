use Rattle.std.proofs.Common.{sym, ◌∙◌}
use Rattle.std.proofs.lemmas.Result.{IfOk-weaker}
use Rattle.std.proofs.lemmas.Str.{chars-IsAscii}
use Rattle.compact_chars.proofs.compact.CompactChars.of_str.Goals as goal

pub returns-then-is_ascii : goal.returns-then-is_ascii
returns-then-is_ascii c =
    IfOk-weaker c.of_chars.result _ _ (λ row e. e ∙ c.as_bytes.ensures.value ∙ sym (chars-IsAscii c.args.text.now c.if-is_ascii.ensures.cases)) c.of_chars.ensures
