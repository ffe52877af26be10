use Rattle.std.proofs.Common.{refl}
use Rattle.buffer_store.proofs.ToldLemmas.{told-opened, told-committed, committed-seen}
use Rattle.buffer_store.proofs.AddedLemmas.{tells-added}
use Rattle.buffer_store.proofs.MovedLemmas.{told-undone, told-redone}
use Rattle.buffer_store.proofs.laws.kept_tells_on.Goals as goal

pub returns : goal.returns
returns c = record {
  opening = λ text h. record { told = told-opened text h; story = refl };
  changing = tells-added;
  committing = λ text bs current saved g h. record { told = told-committed text bs current saved g h; story = committed-seen text bs current saved g h };
  undoing = told-undone;
  redoing = told-redone;
}
