use Rattle.std.specs.Str.{chars}
use Rattle.regex_syntax.specs.Grammar.{read}
use Rattle.regex_ports.specs.Matching.{options}
use Rattle.regex_ports.proofs.GroupLemmas.{match-at-0}
use Rattle.regex_ports.proofs.laws.group_laws.Goals as goal

pub returns : goal.returns
returns c = record { match_is_at_0 = λ source text. match-at-0 (read options (chars source)) text }
