use Rattle.session_replay.proofs.PlayersLemmas.{all-away}
use Rattle.session_replay.proofs.players.Players.new.Goals as goal

pub returns-in-Ok-clause-begins : goal.returns-in-Ok-clause-begins
returns-in-Ok-clause-begins g c = λ empty untold. all-away _ _ c.args.uis.items _ _ _ c.in-Ok.ensures.boxes c.in-Ok.ensures.away c.in-Ok.ensures.unreported empty untold
