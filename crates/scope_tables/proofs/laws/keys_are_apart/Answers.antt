use Rattle.scope_tables.proofs.KeyLemmas.{key-same, key-true}
use Rattle.scope_tables.proofs.laws.keys_are_apart.Goals as goal

pub returns : goal.returns
returns c = record { same = key-same; apart = key-true }
