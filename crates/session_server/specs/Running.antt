-- What a run of a server did.
use Rattle.std.specs.Prelude.{◌≡◌, ◌≤◌, ℕ, List, length, Option, IsSome, IfSome}
use Rattle.kak_ports.specs.Ports.{Rose}
use Rattle.client_links.specs.Wires.{Wire}
use Rattle.client_links.specs.Doors.{Door, NoneCame}
use Rattle.link_lines.specs.declared.ended.Ended.{Ended}
use Rattle.kak_engine.specs.Honesty.{Outside}
use Rattle.engine_desk.specs.Sharing.{Frame, Shared, WasAskedJustThat, IsRescuedWhereBroken}
use Rattle.session_server.specs.declared.status.ServerStatus.{ServerStatus}
use Rattle.session_server.specs.declared.status.ServerStatus.TheVariants.{Ended as AllLeft, Usage, AcceptFault, SpawnFault, NoMemory, Broken, LinksFull, BindFault}
use Rattle.session_events.specs.declared.limits.TheConstants.{MAX_ENTRIES}
use Rattle.session_server.specs.declared.host.TheConstants.{MAX_LINKS}
use Rattle.session_server.specs.Sessions.{IfServed, HaveCome, SessionStands, SessionCausedBy, NoneWaits, AcceptsFor, SpawnsFor}

-- the status with which the process ends
abbrev pub server_code : ServerStatus → ℕ
server_code AllLeft = 0
server_code Usage = 1
server_code AcceptFault = 2
server_code SpawnFault = 3
server_code NoMemory = 4
server_code (Broken at) = 5
server_code LinksFull = 6
server_code BindFault = 7

-- an engine of a server: so many entries there may be, and the outside is at first as it was handed in
abbrev pub frame_at : Outside → Frame
frame_at outside = record { limit = MAX_ENTRIES; first = outside }

-- where there is no session: nothing was done, or it couldn't be listened for, which the acceptor counted; or memory was
-- wanting. No job was started
abbrev pub HasNone : ServerStatus → Door → Door → ℕ → ℕ → Type 0
HasNone Usage old new before now = (new ≡ old) × (now ≡ before)
HasNone BindFault old new before now = NoneCame old new × Rose old.faults new.faults × (now ≡ before)
HasNone NoMemory old new before now = (new.came ≡ old.came) × (new.faults ≡ old.faults) × (now ≡ before)
HasNone _ old new before now = ⊥

-- A session was run with such an engine, whose first client opened the file, if one was named: why it ended, as the status
-- tells, and what is left of it. The outside was asked for what its history says and for nothing else, but where the engine broke;
-- then its texts were rescued.
pub record WasRun {S : Type 0} (closed : S → Wire) (frame : Frame) (file : Option (List ℕ)) (old new : Door) (before now : ℕ) (status : ServerStatus) (engine : Option Shared) (ends : List (Ended × S)) : Type 0 where
  pub given : IfServed status (IsSome engine)
  pub stands : IfSome engine (SessionStands closed frame file old.to_come new.to_come status ends)
  pub outside : IfSome engine WasAskedJustThat
  pub rescued : IfSome engine IsRescuedWhereBroken
  pub cause : IfSome engine (SessionCausedBy status (length ends))
  pub most : length ends ≤ MAX_LINKS
  pub came : HaveCome status (length ends) old.came new.came
  pub waits : NoneWaits status new
  pub accept_faults : AcceptsFor status old.faults new.faults
  pub spawn_faults : SpawnsFor status before now
