use Rattle.session_turns.proofs.HistoryLemmas.{answers_behind-others}
use Rattle.session_turns.proofs.growth.others_give_nothing.Goals as goal

pub returns : goal.returns
returns g c = answers_behind-others
