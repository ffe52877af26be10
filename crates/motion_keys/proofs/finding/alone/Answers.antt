use Rattle.motion_keys.proofs.FoundLemmas.{alone-found}
use Rattle.motion_keys.proofs.finding.alone.Goals as goal

pub returns-in-Some : goal.returns-in-Some
returns-in-Some c = λ text o h. rw c.only.ensures (alone-found text c.in-Some.at o (rw c.in-Some.is at h))
