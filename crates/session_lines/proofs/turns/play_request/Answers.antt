use Rattle.std.proofs.Common.{Ok, ap}
use Rattle.session_lines.specs.Session.{played_by}
use Rattle.session_lines.specs.Serving.{telling_bytes}
use Rattle.session_lines.proofs.TakingLemmas.{said-answered}
use Rattle.session_lines.proofs.turns.play_request.Goals as goal

pub returns-in-Nothing-clause-answers : goal.returns-in-Nothing-clause-answers
returns-in-Nothing-clause-answers g c = said-answered _ _ _ _ _ (ap (λ r. played_by (Ok r)) c.in-Nothing.is) (ap telling_bytes c.nothing.ensures.telling) c.nothing.ensures.stays

pub returns-in-MenuSelect-clause-answers : goal.returns-in-MenuSelect-clause-answers
returns-in-MenuSelect-clause-answers g c = said-answered _ _ _ _ _ (ap (λ r. played_by (Ok r)) c.in-MenuSelect.is) (ap telling_bytes c.nothing-in-MenuSelect.ensures.telling) c.nothing-in-MenuSelect.ensures.stays
