use Rattle.session_events.proofs.LegalLemmas.{lone-length}
use Rattle.session_events.proofs.laws.one_goes_last.Goals as goal

pub returns : goal.returns
returns c = lone-length
