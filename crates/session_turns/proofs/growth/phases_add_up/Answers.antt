use Rattle.session_turns.proofs.TurnLemmas.{fits-append}
use Rattle.session_turns.proofs.growth.phases_add_up.Goals as goal

pub returns : goal.returns
returns g c = fits-append
