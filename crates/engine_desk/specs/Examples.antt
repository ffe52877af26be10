-- Worked examples of what is counted and shown: clients 0 and 1 come, and 0 is drawn and goes.
use Rattle.std.specs.Prelude.{◌≡◌, true, false, List, [], ◌∷◌, ◌++◌, Some, None}
use Rattle.session_events.specs.declared.event.Event.TheVariants.{Join, Refresh, Leave}
use Rattle.session_events.specs.declared.event.Entry.{Entry}
use Rattle.session_events.specs.declared.fault.StepFault.TheVariants.{Broken, NoClient, NoMemory}
use Rattle.session_events.specs.Entries.{entry_of}
use Rattle.session_events.specs.Counting.{here_among, joined_among, comings}
use Rattle.engine_desk.specs.Sharing.{glimpse_of, marked_behind}
use Rattle.engine_desk.specs.Sitting.{told_behind}

abbrev pub both_came : List Entry
both_came = entry_of 1 Join ∷ entry_of 0 Join ∷ entry_of 0 (Refresh true) ∷ []

abbrev pub one_went : List Entry
one_went = both_came ++ entry_of 0 Leave ∷ []

pub record Examples : Type 0 where
  -- who is here, in the order in which they came
  pub here : here_among both_came ≡ 1 ∷ 0 ∷ []
  pub one_here : here_among one_went ≡ 1 ∷ []
  -- who has gone has come once
  pub none_yet : joined_among [] ≡ 0
  pub joined : joined_among one_went ≡ 1
  pub came : comings one_went ≡ 2
  -- a client that wasn't drawn yet, and one that was
  pub undrawn : glimpse_of None 1 both_came ≡ record { stale = true; joined = 2; joins = 2; broken = None }
  pub drawn : glimpse_of None 0 both_came ≡ record { stale = false; joined = 2; joins = 2; broken = None }
  -- one that has gone, and one that never came, as a keeper
  pub gone : glimpse_of None 0 one_went ≡ record { stale = false; joined = 1; joins = 2; broken = None }
  pub nobody : glimpse_of (Some 3) 4294967295 one_went ≡ record { stale = false; joined = 1; joins = 2; broken = Some 3 }
  -- want of memory sets the mark, once, and no other refusal does
  pub wanting : marked_behind NoMemory None 3 ≡ Some 3
  pub refusing : marked_behind (NoClient 7) None 3 ≡ None
  pub broken : marked_behind (Broken 2) (Some 2) 3 ≡ Some 2
  -- a client is told that mark
  pub told : told_behind (Broken 2) None 3 ≡ Some 2
  pub told_now : told_behind NoMemory None 3 ≡ Some 3
  pub told_nothing : told_behind (NoClient 7) None 3 ≡ None
