-- Worked examples of why the serving of a session ends: client 0 comes and goes, and 1 comes.
use Rattle.std.specs.Prelude.{◌≡◌, true, List, [], ◌∷◌, ◌++◌, Some, None, Ok, Err}
use Rattle.session_events.specs.declared.event.Event.TheVariants.{Join, Refresh, Leave}
use Rattle.session_events.specs.declared.event.Entry.{Entry}
use Rattle.session_events.specs.Entries.{entry_of}
use Rattle.session_server.specs.declared.status.ServerStatus.TheVariants.{Ended, Usage, AcceptFault, SpawnFault, Broken, LinksFull, BindFault}
use Rattle.session_server.specs.Sessions.{AllWent, WasDeserted, lost, AcceptsFor, SpawnsFor}
use Rattle.session_server.specs.Hosting.{LooksIn}
use Rattle.session_server.specs.Running.{server_code}

abbrev pub came : List Entry
came = entry_of 0 Join ∷ entry_of 0 (Refresh true) ∷ []

abbrev pub went : List Entry
went = came ++ entry_of 0 Leave ∷ []

abbrev pub came_again : List Entry
came_again = went ++ entry_of 1 Join ∷ []

pub record Examples : Type 0 where
  -- a session is over once a client has come and none is here
  pub over : AllWent went
  pub not_begun : AllWent [] → ⊥
  pub still_here : AllWent came → ⊥
  pub here_again : AllWent came_again → ⊥
  -- that it was over is seen from its history later too
  pub was_over : WasDeserted came_again
  pub never_over : WasDeserted came → ⊥
  -- nobody is let in any more where it is over or broken; a session in which nobody has come yet goes on
  pub looked_over : LooksIn (Err Ended) went None
  pub looked_broken : LooksIn (Err (Broken 2)) came (Some 2)
  pub looked_early : LooksIn (Ok tt) [] None
  pub looked_in_vain : LooksIn (Ok tt) went None → ⊥
  pub looked_past : LooksIn (Ok tt) came (Some 2) → ⊥
  -- a link is dropped where nobody could be made to serve it, and where there are too many, and else none is
  pub dropped : lost SpawnFault ≡ 1
  pub one_too_many : lost LinksFull ≡ 1
  pub none_dropped : lost Ended ≡ 0
  -- faults are counted where they are told, and only there
  pub accepting : AcceptsFor AcceptFault 1 2
  pub not_accepting : AcceptsFor AcceptFault 1 1 → ⊥
  pub accepted : AcceptsFor Ended 1 2 → ⊥
  pub spawning : SpawnsFor SpawnFault 0 1
  pub spawned : SpawnsFor LinksFull 0 1 → ⊥
  -- the statuses
  pub ended : server_code Ended ≡ 0
  pub broke : server_code (Broken 3) ≡ 5
  pub full : server_code LinksFull ≡ 6
  pub usage : server_code Usage ≡ 1
  pub unbound : server_code BindFault ≡ 7
