use Rattle.session_turns.proofs.TurnLemmas.{over-more, short-more, unsent-more, lost-more}
use Rattle.session_turns.proofs.growth.phases_behind_are_free.Goals as goal

pub returns : goal.returns
returns g c = record { over = over-more; short = short-more; unsent = unsent-more; lost = lost-more }
