use Rattle.session_lines.proofs.TakingLemmas.{keys-answered}
use Rattle.session_lines.proofs.playing.answer_idle.Goals as goal

pub returns-clause-answers : goal.returns-clause-answers
returns-clause-answers g c = keys-answered _ _ _ _ _ c.in_ok-telling.ensures.takes
