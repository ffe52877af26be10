use Rattle.std.proofs.Common.{sym, ◌∙◌}
use Rattle.scope_options.proofs.NumberLemmas.{int_of-parsed}
use Rattle.scope_options.proofs.value.int_of.Goals as goal

pub returns : goal.returns
returns c = c.ok.ensures.value ∙ int_of-parsed c.args.word.now c.parse.result (sym c.begins_plus.ensures ∙ c.if-begins_plus.false) c.parse.ensures.value.0
