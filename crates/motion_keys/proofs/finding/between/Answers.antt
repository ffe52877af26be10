use Rattle.motion_keys.proofs.FoundLemmas.{pair-found}
use Rattle.motion_keys.proofs.finding.between.Goals as goal

pub returns-in-Some : goal.returns-in-Some
returns-in-Some c = λ text range h. rw c.of_pair.ensures (pair-found text c.in-Some.pair range (rw c.in-Some.is at h))
