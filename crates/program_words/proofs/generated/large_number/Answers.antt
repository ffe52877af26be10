use Rattle.std.proofs.Common.{◌^◌, sym, ◌∙◌}
use Rattle.program_words.proofs.NumberLemmas.{number-parsed, plus-none}
use Rattle.program_words.proofs.generated.large_number.Goals as goal

pub returns-then-begins_plus : goal.returns-then-begins_plus
returns-then-begins_plus c = sym (plus-none (2 ^ 64) c.args.word.now (sym c.begins_plus.ensures ∙ c.if-begins_plus.true))

pub returns : goal.returns
returns c = c.ok.ensures.value ∙ number-parsed 64 c.args.word.now c.parse.result (sym c.begins_plus.ensures ∙ c.if-begins_plus.false) c.parse.ensures.value.0
