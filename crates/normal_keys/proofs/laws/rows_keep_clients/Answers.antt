use Rattle.normal_keys.proofs.KeepingLaws.{keeps_normal}
use Rattle.normal_keys.proofs.laws.rows_keep_clients.Goals as goal

pub returns : goal.returns
returns c = keeps_normal
