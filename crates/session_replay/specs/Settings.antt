-- What a replay is played with.
use Rattle.session_events.specs.Meaning.{Gives}
use Rattle.requests.specs.Reading.{Reads}

-- What entries give, and which requests lines are.
pub record Setting : Type 0 where
  pub gives : Gives
  pub reads : Reads

abbrev pub setting : Gives → Reads → Setting
setting gives reads = record { gives = gives; reads = reads }
