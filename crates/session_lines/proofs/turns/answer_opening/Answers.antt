use Rattle.session_lines.proofs.OpeningLemmas.{opening-taken, opening-cut}
use Rattle.session_lines.proofs.turns.answer_opening.Goals as goal

pub returns-in-Ok-clause-answers : goal.returns-in-Ok-clause-answers
returns-in-Ok-clause-answers g c = opening-taken _ _ _ c.args.keys.now c.args.let_go c.in-Ok.reply c.play_keys.ensures.meaning c.requires.new c.in-Ok.ensures.answers

pub returns-in-Err-clause-answers : goal.returns-in-Err-clause-answers
returns-in-Err-clause-answers g c = opening-cut _ _ _ c.args.keys.now c.args.let_go _ c.play_keys.ensures.meaning c.requires.new c.in-Err.ensures.answers
