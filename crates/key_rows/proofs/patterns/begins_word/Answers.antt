use Rattle.std.proofs.Common.{sym}
use Rattle.text_model.specs.Texts.{offset}
use Rattle.key_rows.proofs.PatternLemmas.{begins-behind}
use Rattle.key_rows.proofs.patterns.begins_word.Goals as goal

pub returns-in-Some : goal.returns-in-Some
returns-in-Some c = begins-behind c.args.lines.now (offset c.args.lines.now c.args.at) (offset c.args.lines.now c.in-Some.before) c.is_word_at-in-Some.result (sym c.if-not-is_word_at.ensures) c.in-Some.ensures.prev.1 c.is_word_at-in-Some.ensures
