use Rattle.key_rows.proofs.KeepingLaws.{keeps_edit, keeps_put, keeps_leaving, keeps_entry}
use Rattle.key_rows.proofs.laws.edits_keep_clients.Goals as goal

pub returns : goal.returns
returns c = record {
  edits = keeps_edit;
  puts = keeps_put;
  fills = λ x who flat. keeps_leaving _ who flat;
  entries = keeps_entry;
}
