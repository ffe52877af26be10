-- What is left of a session that was served, and why its serving ended.
use Rattle.std.specs.Prelude.{◌≡◌, ◌⊎◌, ℕ, ◌+◌, ◌<◌, List, [], ◌∷◌, ◌++◌, length, All, IfSome, ⊤, Option, None, Some}
use Rattle.kak_ports.specs.Ports.{Rose}
use Rattle.session_turns.specs.Growth.{Begins}
use Rattle.client_links.specs.Wires.{Wire}
use Rattle.client_links.specs.Doors.{Door, NoneIsToCome, led_by, counted_on}
use Rattle.session_turns.specs.Histories.{own}
use Rattle.session_events.specs.declared.event.Entry.{Entry}
use Rattle.session_events.specs.Legal.{IsLegal}
use Rattle.session_events.specs.Meaning.{rules}
use Rattle.link_lines.specs.declared.ended.Ended.{Ended}
use Rattle.kak_engine.specs.Steps.{given_by}
use Rattle.session_events.specs.Counting.{joined_among, comings}
use Rattle.engine_desk.specs.Sharing.{Frame, Shared, frame_of}
use Rattle.session_server.specs.Rows.{ServedRow}
use Rattle.session_server.specs.declared.status.ServerStatus.{ServerStatus}
use Rattle.session_server.specs.declared.status.ServerStatus.TheVariants.{Ended as AllLeft, Usage, AcceptFault, SpawnFault, Broken, LinksFull, BindFault, NoMemory}
use Rattle.session_server.specs.declared.host.TheConstants.{MAX_LINKS}

-- the rows of links that were served under the numbers from this one on, one for each and in their order, of which the first
-- opened the file, if one was named
abbrev pub RowsFrom : {S : Type 0} → (S → Wire) → ℕ → List Entry → Option ℕ → ℕ → Option (List ℕ) → List Wire → List (Ended × S) → Type 0
RowsFrom closed limit history mark who file [] [] = ⊤
RowsFrom closed limit history mark who file (link ∷ links) (end ∷ ends) =
    ServedRow limit file who history mark end.0 link (closed end.1) × RowsFrom closed limit history mark (who + 1) None links ends
RowsFrom closed limit history mark who file links ends = ⊥

-- these links came first of those that were to come, and one behind them, which isn't served
abbrev pub IsDroppedBehind : List Wire → Option (List Wire) → Option (List Wire) → Type 0
IsDroppedBehind links before now = (link : Wire) × (before ≡ led_by (links ++ link ∷ []) now)

-- The links that are served came in this order, as the first of those that were to come, and the others still are, where
-- these are told. A further one came where one was dropped, and where memory was wanting for it.
abbrev pub CameInOrder : ServerStatus → List Wire → Option (List Wire) → Option (List Wire) → Type 0
CameInOrder SpawnFault links before now = IsDroppedBehind links before now
CameInOrder LinksFull links before now = IsDroppedBehind links before now
CameInOrder NoMemory links before now = IsDroppedBehind links before now
CameInOrder _ links before now = before ≡ led_by links now

-- What stands of a session, by the engine that is left, why it ended, and the links that were to come before and still are: the
-- engine is the one that was served, each link has its row there, in the order in which they came, and nobody else is in its
-- history, which is one that there can be. A mark is the number of its entries.
pub record SessionStands {S : Type 0} (closed : S → Wire) (frame : Frame) (file : Option (List ℕ)) (before now : Option (List Wire)) (why : ServerStatus) (ends : List (Ended × S)) (shared : Shared) : Type 0 where
  pub frame_is : frame_of shared ≡ frame
  -- the links as they came
  pub links : List Wire
  pub in_order : CameInOrder why links before now
  pub rows : RowsFrom closed frame.limit shared.engine.history shared.engine.mark 0 file links ends
  pub numbers : All (λ entry. entry.who < length ends) shared.engine.history
  pub legal : IsLegal frame.limit shared.engine.history
  pub marked : IfSome shared.engine.mark (λ at. at ≡ length shared.engine.history)

-- a client had come, and none is here
pub record AllWent (history : List Entry) : Type 0 where
  pub came : 0 < comings history
  pub none : joined_among history ≡ 0

-- at some moment of a history a client had come, and none was here; nobody of those who had come has an entry behind it
pub record WasDeserted (history : List Entry) : Type 0 where
  pub front : List Entry
  pub begins : Begins history front
  pub went : AllWent front
  pub alone : (who : ℕ) → (own (rules given_by) who front ≡ []) ⊎ (own (rules given_by) who begins.0 ≡ [])

-- why a session ended that served so many links; there is none where the words or listening are at fault
abbrev pub SessionCausedBy : ServerStatus → ℕ → Shared → Type 0
SessionCausedBy AllLeft count shared = WasDeserted shared.engine.history
SessionCausedBy (Broken at) count shared = shared.engine.mark ≡ Some at
SessionCausedBy LinksFull count shared = count ≡ MAX_LINKS
SessionCausedBy Usage count shared = ⊥
SessionCausedBy BindFault count shared = ⊥
SessionCausedBy _ count shared = ⊤

-- that a session is over, or broken, is seen only where no link is left that is to come
abbrev pub NoneWaits : ServerStatus → Door → Type 0
NoneWaits AllLeft door = NoneIsToCome door
NoneWaits (Broken at) door = NoneIsToCome door
NoneWaits _ door = ⊤

-- with every answer but want of memory
abbrev pub IfServed : ServerStatus → Type 0 → Type 0
IfServed NoMemory P = ⊤
IfServed _ P = P

-- how many of the links that came were dropped
abbrev pub lost : ServerStatus → ℕ
lost SpawnFault = 1
lost LinksFull = 1
lost _ = 0

-- with every answer but want of memory, so many links have come since: those that are served, and those that were dropped
abbrev pub HaveCome : ServerStatus → ℕ → Option ℕ → Option ℕ → Type 0
HaveCome why count before now = IfServed why (now ≡ counted_on before (count + lost why))

-- how a count of faults stands where memory ran out: nothing is said of what came before
abbrev pub MayHaveRisen : ℕ → ℕ → Type 0
MayHaveRisen before now = (now ≡ before) ⊎ Rose before now

-- the acceptor's count of faults rose where accepting failed, and only there
abbrev pub AcceptsFor : ServerStatus → ℕ → ℕ → Type 0
AcceptsFor AcceptFault before now = Rose before now
AcceptsFor NoMemory before now = MayHaveRisen before now
AcceptsFor _ before now = now ≡ before

-- the spawner's count of faults rose where nobody could be made to serve a link, and only there
abbrev pub SpawnsFor : ServerStatus → ℕ → ℕ → Type 0
SpawnsFor SpawnFault before now = Rose before now
SpawnsFor NoMemory before now = MayHaveRisen before now
SpawnsFor _ before now = now ≡ before
