use Rattle.std.proofs.Common.{sym, ◌∙◌, arith}
use Rattle.key_rows.proofs.PatternLemmas.{last-of-none}
use Rattle.key_rows.proofs.patterns.last_string.Goals as goal

pub returns-in-0 : goal.returns-in-0
returns-in-0 c = c.new.ensures ∙ sym (last-of-none c.args.strings.now (omega (arith, c.in-0.is, c.len.ensures)))
