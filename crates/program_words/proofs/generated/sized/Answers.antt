use Rattle.std.proofs.Common.{sym, ◌∙◌}
use Rattle.program_words.proofs.NumberLemmas.{some-client}
use Rattle.program_words.proofs.generated.sized.Goals as goal

pub returns-clause-some : goal.returns-clause-some
returns-clause-some c = some-client c.args.clients c.args.keys (sym c.are_in_range.ensures ∙ c.if-not-are_in_range.false)
