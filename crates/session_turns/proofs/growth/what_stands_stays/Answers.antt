use Rattle.session_turns.proofs.Ends.{stands-later}
use Rattle.session_turns.proofs.growth.what_stands_stays.Goals as goal

pub returns : goal.returns
returns g c = stands-later
