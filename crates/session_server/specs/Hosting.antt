-- How the clients of a session are let in, and how their passes come back.
use Rattle.std.specs.Prelude.{◌≡◌, ℕ, ◌+◌, ◌<◌, ◌≤◌, List, [], ◌∷◌, All, ⊤, Option, None, Some, Ok, Err}
use Rattle.std.specs.declared.result.Result.{Result}
use Rattle.session_desk.specs.Histories.{GivenBack, entries_by}
use Rattle.session_desk.specs.Tokens.{Home, DeskPlace, IsOf, PassView, KeeperView}
use Rattle.session_events.specs.declared.event.Entry.{Entry}
use Rattle.link_lines.specs.declared.ended.Ended.{Ended}
use Rattle.session_events.specs.Counting.{joined_among, comings}
use Rattle.engine_desk.specs.Sharing.{Frame}
use Rattle.session_server.specs.declared.status.ServerStatus.{ServerStatus}
use Rattle.session_server.specs.declared.status.ServerStatus.TheVariants.{Ended as AllLeft, Usage, SpawnFault, Broken, LinksFull, BindFault, NoMemory}
use Rattle.session_server.specs.declared.host.TheConstants.{MAX_LINKS}
use Rattle.session_server.specs.Sessions.{AllWent}

-- who lets clients in: the desk, its keeper, and the file that the next client opens, if one is named
pub record HostView : Type 0 where
  pub home : Home Frame
  pub keeper : KeeperView Entry Frame
  pub file : Option (List ℕ)

-- The keeper is of the desk. It let in so many, which are no more than there may be, and has seen entries of these alone.
pub record IsHosting (home : Home Frame) (keeper : KeeperView Entry Frame) (admitted : ℕ) : Type 0 where
  pub own : IsOf keeper.place home
  pub made : keeper.made ≡ admitted
  pub most : admitted ≤ MAX_LINKS
  pub numbers : All (λ entry. entry.who < keeper.made) keeper.seen

-- nobody was let in yet, and nothing was seen
pub record IsNewHost (frame : Frame) (file : Option (List ℕ)) (host : HostView) : Type 0 where
  pub frame_is : host.home.frame ≡ frame
  pub made : host.keeper.made ≡ 0
  pub given : host.keeper.given ≡ []
  pub file_is : host.file ≡ file

-- a look told why nobody is let in any more; or a client is here, or none has come, and the session isn't broken
abbrev pub LooksIn : Result Unit ServerStatus → List Entry → Option ℕ → Type 0
LooksIn (Ok _) seen mark = mark ≡ None × (0 < comings seen → 0 < joined_among seen)
LooksIn (Err AllLeft) seen mark = AllWent seen
LooksIn (Err (Broken at)) seen mark = mark ≡ Some at
LooksIn (Err _) seen mark = ⊥

-- a job: the desk, the pass, and the file that its client opens, if one is named
pub record JobView : Type 0 where
  pub home : Home Frame
  pub pass : PassView Entry Frame
  pub file : Option (List ℕ)

abbrev pub job_view : Home Frame → PassView Entry Frame → Option (List ℕ) → JobView
job_view home pass file = record { home = home; pass = pass; file = file }

-- the pass that a keeper gives next
abbrev pub keeper_pass : KeeperView Entry Frame → PassView Entry Frame
keeper_pass keeper = record { place = keeper.place; number = keeper.made; seen = keeper.seen; mark = keeper.mark }

-- A client was let in: the job has the next pass, and the file, which no later client opens.
pub record Admits (old new : HostView) (job : JobView) : Type 0 where
  pub home : new.home ≡ old.home
  pub room : old.keeper.made < MAX_LINKS
  pub keeper : new.keeper ≡ record old.keeper { made = old.keeper.made + 1 }
  pub file : new.file ≡ None
  pub job_is : job ≡ job_view old.home (keeper_pass old.keeper) old.file

-- why a client wasn't let in: as many are let in as may be, or memory was wanting
abbrev pub IsLinkRefused : HostView → ServerStatus → Type 0
IsLinkRefused host LinksFull = host.keeper.made ≡ MAX_LINKS
IsLinkRefused host NoMemory = ⊤
IsLinkRefused host _ = ⊥

-- a job was handed back, for a fault or for want of memory
abbrev pub IsHandedBack : ServerStatus → Type 0
IsHandedBack SpawnFault = ⊤
IsHandedBack NoMemory = ⊤
IsHandedBack _ = ⊥

-- The job of a client that was let in under this number, with this file to open.
pub record IsAdmitted (home : Home Frame) (place : DeskPlace Frame) (who : ℕ) (file : Option (List ℕ)) (job : JobView) : Type 0 where
  pub home_is : job.home ≡ home
  pub place_is : job.pass.place ≡ place
  pub number_is : job.pass.number ≡ who
  pub file_is : job.file ≡ file

-- the jobs of clients that were let in under the numbers from this one on, the first of which opens the file, if one is named
abbrev pub Admitted : {J : Type 0} → (J → JobView) → Home Frame → DeskPlace Frame → ℕ → Option (List ℕ) → List J → Type 0
Admitted view home place who file [] = ⊤
Admitted view home place who file (job ∷ jobs) = IsAdmitted home place who file (view job) × Admitted view home place (who + 1) None jobs

-- why no further link is received, where so many are served; the words and listening aren't at fault
abbrev pub StopsHostingFor : ServerStatus → List Entry → Option ℕ → ℕ → Type 0
StopsHostingFor AllLeft seen mark count = AllWent seen
StopsHostingFor (Broken at) seen mark count = mark ≡ Some at
StopsHostingFor LinksFull seen mark count = count ≡ MAX_LINKS
StopsHostingFor Usage seen mark count = ⊥
StopsHostingFor BindFault seen mark count = ⊥
StopsHostingFor _ seen mark count = ⊤

-- the pass of a link that was served, as a keeper notes it
abbrev pub noted : {S : Type 0} → Ended × PassView Entry Frame × S → GivenBack Entry
noted result = (result.1.number, result.1.seen, result.1.mark)

-- how the serving of a link ended, and what is left of it
abbrev pub serving_end : {S : Type 0} → Ended × PassView Entry Frame × S → Ended × S
serving_end result = (result.0, result.2)

-- the pass of a link that isn't served, as a keeper notes it, if there is one
abbrev pub passes_back : Option (PassView Entry Frame) → List (GivenBack Entry)
passes_back (Some pass) = (pass.number, pass.seen, pass.mark) ∷ []
passes_back None = []

-- a pass of that desk's place wasn't used: its number is the next one behind so many, and it has no entry
abbrev pub IsUnused : DeskPlace Frame → ℕ → PassView Entry Frame → Type 0
IsUnused place count pass = (pass.place ≡ place) × (pass.number ≡ count) × (entries_by (λ entry. entry.who) pass.number pass.seen ≡ [])

-- a mark that was met stays
abbrev pub KeepsMark : Option ℕ → Option ℕ → Type 0
KeepsMark None now = ⊤
KeepsMark (Some at) now = now ≡ Some at
