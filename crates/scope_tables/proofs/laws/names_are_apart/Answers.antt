use Rattle.scope_tables.proofs.NameLemmas.{read-back, name-same, name-true}
use Rattle.scope_tables.proofs.laws.names_are_apart.Goals as goal

pub returns : goal.returns
returns c = record { read_back = read-back; same = name-same; apart = name-true }
