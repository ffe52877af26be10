use Rattle.insert_prompt.proofs.KeepingLaws.{keeps_insert, keeps_prompt}
use Rattle.insert_prompt.proofs.laws.rows_keep_clients.Goals as goal

pub returns : goal.returns
returns c = record { insert = keeps_insert; prompt = keeps_prompt }
