use Rattle.std.specs.Prelude.{◌≡◌, length}
use Rattle.session_events.specs.Missing.{has_news}
use Rattle.session_events.proofs.news.has_news.Given as goal

-- what was looked at so far changes nothing
abbrev pub invariant-loop-entry : goal.invariant-loop-entry
invariant-loop-entry l = has_news l.who l.history ≡ has_news l.who l.rest

abbrev pub decreases-loop-entry : goal.decreases-loop-entry
decreases-loop-entry l = length l.rest
