use Rattle.kak_engine.proofs.KeepingLaws.{keeps_key}
use Rattle.kak_engine.proofs.laws.keys_keep_clients.Goals as goal

pub returns : goal.returns
returns c = keeps_key
