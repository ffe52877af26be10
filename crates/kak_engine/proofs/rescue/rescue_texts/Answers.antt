use Rattle.kak_engine.proofs.RescueLemmas.{tried-fewer}
use Rattle.kak_engine.proofs.rescue.rescue_texts.Goals as goal

pub returns-clause-fewer : goal.returns-clause-fewer
returns-clause-fewer g c = tried-fewer _ _ _ _ _ c.if-tally.false c.try_all-tally.ensures
