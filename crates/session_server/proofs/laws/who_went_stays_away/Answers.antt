use Rattle.kak_engine.specs.Steps.{given_by}
use Rattle.session_server.proofs.GoneLemmas.{stays-away}
use Rattle.session_server.proofs.laws.who_went_stays_away.Goals as goal

pub returns : goal.returns
returns c = stays-away given_by
