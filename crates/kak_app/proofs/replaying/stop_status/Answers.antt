use Rattle.kak_app.proofs.ReplayLemmas.{broken-replayed}
use Rattle.kak_app.proofs.replaying.stop_status.Goals as goal

pub returns-in-Broken-clause-answers : goal.returns-in-Broken-clause-answers
returns-in-Broken-clause-answers c = λ kinds boxes old new r. let q = rw c.in-Broken.is at r in broken-replayed kinds boxes _ old new q
