-- What a replay is: which lines are read of its input, what of the history each client's lines make, in which order, what
-- each client is sent, and what is written.
use Rattle.std.specs.Prelude.{◌≡◌, ◌≢◌, ℕ, ◌+◌, ◌<◌, ◌≤◌, ◌⊎◌, Bool, true, false, not, ◌&&◌, ◌||◌, nat_lt, if◌then◌else◌, List, [], ◌∷◌, ◌++◌, length, take, map, flat_map, get_or, Option, Some, ⊤, Ok, Err}
use Rattle.std.specs.declared.result.Result.{Result}
use Rattle.std.specs.List.{list_all, list_any}
use Rattle.std.specs.Io.KnownBytes.{Appends, Consumes}
use Rattle.kak_ports.specs.Ports.{Inlet, Outlet, AppendsFront, Rose}
use Rattle.ui_board.specs.declared.ui.Kind.{Kind}
use Rattle.ui_board.specs.declared.ui.Kind.TheVariants.{Silent}
use Rattle.ui_board.specs.Told.{Shown, untold, json_lines, report_of}
use Rattle.line_reading.specs.declared.limits.TheConstants.{MAX_INPUT, MAX_PIECE}
use Rattle.line_reading.specs.Reading.{IsAll}
use Rattle.session_turns.specs.Lines.{whole_lines, lines_of_input}
use Rattle.session_turns.specs.Histories.{own}
use Rattle.session_turns.specs.Turns.{turns_of}
use Rattle.session_turns.specs.Growth.{Begins}
use Rattle.session_turns.specs.Headline.{End, Left, Closed, Refused, Lost, Stands as StandsFor}
use Rattle.session_events.specs.declared.event.Entry.{Entry}
use Rattle.session_events.specs.Entries.{is_leave}
use Rattle.session_events.specs.Legal.{Away, is_here, presence_from}
use Rattle.session_events.specs.Meaning.{rules}
use Rattle.session_lines.specs.declared.playing.Stop.{Stop}
use Rattle.session_lines.specs.declared.playing.Stop.TheVariants.{HistoryFull, Broken, NoMemory, WriteFault}
use Rattle.session_lines.specs.Session.{protocol}
use Rattle.session_lines.specs.Stops.{NoneFailed}
use Rattle.session_replay.specs.Settings.{Setting}
use Rattle.session_replay.specs.declared.ends.ReplayEnd.{ReplayEnd}
use Rattle.session_replay.specs.declared.ends.ReplayEnd.TheVariants.{Over, Ended, BadClient, ReadFault, Full}
use Rattle.session_replay.specs.declared.places.ClientPlace.{ClientPlace}
use Rattle.session_replay.specs.Written.{Written, Blank, Of, Bad, written, lines_for}
use Rattle.session_replay.specs.Clients.{ClientStands, NoStrangers}

-- What a replay has come to.
pub record Replay : Type 0 where
  -- what an entry gives its client
  pub with : Setting
  -- how many entries the history may have, leavings aside
  pub limit : ℕ
  -- the written lines that were read, in order
  pub lines : List (List ℕ)
  -- the entries of all clients
  pub history : List Entry
  -- what the clients' boxes have shown, in the order of the clients' numbers
  pub shown : List Shown

-- the lines that some written lines are for a client of a replay
abbrev pub replay_lines_of : Replay → ℕ → List (List ℕ) → List (List ℕ)
replay_lines_of replay who lines = lines_for (length replay.shown) who lines

-- the bytes that a client was sent, which its box was told
abbrev pub sent_to : Replay → ℕ → List ℕ
sent_to replay who = json_lines (get_or replay.shown who (untold Silent)).told

-- What stands for a client at an end of its connection. One that has no line never came: it has no entry, and was sent
-- nothing.
abbrev pub StandsAt : End → Setting → ℕ → List Entry → List (List ℕ) → List ℕ → Type 0
StandsAt end with who history [] told = (own (rules with.gives) who history ≡ []) × (told ≡ [])
StandsAt end with who history (line ∷ lines) told = StandsFor (protocol with.reads []) (rules with.gives) end who history (turns_of (line ∷ lines)) told

-- so a client ended
abbrev pub EndedAs : End → Replay → ℕ → Type 0
EndedAs end replay who = StandsAt end replay.with who replay.history (replay_lines_of replay who replay.lines) (sent_to replay who)

-- a client was let go by one of its lines, or left when the replay ended, or never came
abbrev pub ClientHasEnded : Replay → ℕ → Type 0
ClientHasEnded replay who = EndedAs Left replay who ⊎ EndedAs Closed replay who

-- a written line is bad
abbrev pub is_bad : Written → Bool
is_bad Blank = false
is_bad (Of who line) = false
is_bad Bad = true

-- one of some written lines is bad
abbrev pub has_bad : ℕ → List (List ℕ) → Bool
has_bad count lines = list_any (λ line. is_bad (written count line)) lines

-- a client has left behind some entries, and none is here
abbrev pub is_over : List Entry → Bool
is_over entries = list_any (λ entry. is_leave entry.event) entries && not (list_any (λ entry. is_here (presence_from entry.who Away entries)) entries)

-- behind a leaving there are the leavings of clients with greater numbers, and nothing else
abbrev pub leave_in_order : List Entry → Bool
leave_in_order [] = true
leave_in_order (entry ∷ entries) =
    (not (is_leave entry.event) || list_all (λ later. is_leave later.event && nat_lt entry.who later.who) entries) && leave_in_order entries

-- the entries before the first leaving
abbrev pub before_leavings : List Entry → List Entry
before_leavings [] = []
before_leavings (entry ∷ entries) = if is_leave entry.event then [] else entry ∷ before_leavings entries

-- Behind some of the lines, none of which is bad, a front of the history stood: each client stands behind its own of
-- them, so that nothing of the lines behind was played yet. `over` says whether the replay was over there.
pub record ReachesLines (replay : Replay) (lines : List (List ℕ)) (over : Bool) : Type 0 where
  pub good : has_bad (length replay.shown) lines ≡ false
  pub front : List Entry
  pub rest : List Entry
  pub split : replay.history ≡ front ++ rest
  pub clients : (who : ℕ) → who < length replay.shown → (at : ClientPlace) × (told : List ℕ) × ClientStands replay.with at who front (replay_lines_of replay who lines) told
  pub over_is : is_over front ≡ over

-- Some of the lines were reached, and no others: behind them those who were here leave, in the order of their numbers.
pub record StopsBehind (replay : Replay) (lines : List (List ℕ)) (over : Bool) : Type 0 where
  pub reaches : ReachesLines replay lines over
  pub in_order : leave_in_order reaches.rest ≡ true

-- the lines are the first of those that the bytes complete; a last part is one too only where the input has ended
abbrev pub AreFirst : Inlet → List ℕ → List (List ℕ) → Type 0
AreFirst left bytes lines = Begins (whole_lines [] bytes) lines ⊎ (IsAll left bytes × Begins (lines_of_input bytes) lines)

-- No more was taken than so many lines need: the bytes before the last piece, which is no longer than what may be taken
-- at once, and than what one take gives, complete fewer.
pub record IsNeededFor (count : ℕ) (left : Inlet) (bytes : List ℕ) : Type 0 where
  pub before : List ℕ
  pub piece : List ℕ
  pub cut : bytes ≡ before ++ piece
  pub one : length piece ≤ MAX_PIECE
  pub most : length piece ≤ left.most
  pub fewer : length (whole_lines [] before) < count

-- The last line is bad, and behind it nothing was read.
pub record EndsBad (replay : Replay) : Type 0 where
  pub before : List (List ℕ)
  pub last : List ℕ
  pub split : replay.lines ≡ before ++ last ∷ []
  pub bad : written (length replay.shown) last ≡ Bad
  pub stops : StopsBehind replay before false

-- An event of the last line was refused, since the history was full before anybody left at the end: the line's client is
-- refused, and has left if it had come.
pub record EndsRefused (replay : Replay) : Type 0 where
  pub before : List (List ℕ)
  pub last : List ℕ
  pub split : replay.lines ≡ before ++ last ∷ []
  pub who : ℕ
  pub line : List ℕ
  pub is : written (length replay.shown) last ≡ Of who line
  pub inside : who < length replay.shown
  pub stops : StopsBehind replay before false
  pub full : replay.limit ≤ length stops.reaches.front + length (before_leavings stops.reaches.rest)
  pub refused : EndedAs Refused replay who
  pub others : (other : ℕ) → other < length replay.shown → other ≢ who → ClientHasEnded replay other

-- where a replay ends: behind the line by which it is over, behind all lines of the input, behind a bad line, or behind
-- all whole lines, since the input failed or gave all that may be taken
abbrev pub EndsBy : ReplayEnd → Replay → Inlet → List ℕ → Type 0
EndsBy Over replay left bytes = StopsBehind replay replay.lines true × IsNeededFor (length replay.lines) left bytes
EndsBy Ended replay left bytes = StopsBehind replay replay.lines false × IsAll left bytes × (replay.lines ≡ lines_of_input bytes)
EndsBy BadClient replay left bytes = EndsBad replay × IsNeededFor (length replay.lines) left bytes
EndsBy ReadFault replay left bytes = StopsBehind replay replay.lines false × (replay.lines ≡ whole_lines [] bytes)
EndsBy Full replay left bytes = StopsBehind replay replay.lines false × (replay.lines ≡ whole_lines [] bytes) × (length bytes ≡ MAX_INPUT)

-- How a replay ends, and what stands for its clients then. Where memory was wanting or the session is broken, a beginning
-- of what is due to each stands, and a beginning was sent.
abbrev pub ReplayEnds : Result ReplayEnd Stop → Replay → Inlet → List ℕ → Type 0
ReplayEnds (Ok end) replay left bytes = EndsBy end replay left bytes × ((who : ℕ) → who < length replay.shown → ClientHasEnded replay who)
ReplayEnds (Err HistoryFull) replay left bytes = EndsRefused replay × IsNeededFor (length replay.lines) left bytes
ReplayEnds (Err (Broken at)) replay left bytes = (who : ℕ) → who < length replay.shown → EndedAs Lost replay who
ReplayEnds (Err NoMemory) replay left bytes = (who : ℕ) → who < length replay.shown → EndedAs Lost replay who
ReplayEnds (Err WriteFault) replay left bytes = ⊥

-- Lines of an input were replayed: they are its first ones, each was played behind all before it, none behind a bad one,
-- and none where the replay was over; and nobody else has an entry.
pub record IsReplayed (replay : Replay) (ended : Result ReplayEnd Stop) (left : Inlet) (bytes : List ℕ) : Type 0 where
  pub first : AreFirst left bytes replay.lines
  pub order : (i : ℕ) → i < length replay.lines → ReachesLines replay (take i replay.lines) false
  pub strangers : NoStrangers replay.with (length replay.shown) replay.history
  pub ends : ReplayEnds ended replay left bytes

-- what is answered where the reports couldn't be written: that, where nothing else was met
abbrev pub unwritten : Result ReplayEnd Stop → Result ReplayEnd Stop
unwritten (Ok Over) = Err WriteFault
unwritten (Ok Ended) = Err WriteFault
unwritten ended = ended

-- the reports were written, or a write failed behind a front of them
abbrev pub WritesReports : Result ReplayEnd Stop → Result ReplayEnd Stop → Outlet → Outlet → List ℕ → Type 0
WritesReports ended result before now reports =
    ((result ≡ ended) × Appends before.told now.told reports × NoneFailed before now)
    ⊎ ((result ≡ unwritten ended) × AppendsFront before.told now.told reports × Rose before.faults now.faults)

-- and nothing is written where memory was wanting or the session is broken
abbrev pub Reports : Result ReplayEnd Stop → Result ReplayEnd Stop → Outlet → Outlet → List ℕ → Type 0
Reports (Err (Broken at)) result before now reports = (result ≡ Err (Broken at)) × (now ≡ before)
Reports (Err NoMemory) result before now reports = (result ≡ Err NoMemory) × (now ≡ before)
Reports ended result before now reports = WritesReports ended result before now reports

-- this holds, unless memory was wanting or the session is broken
abbrev pub UnlessLost : {A : Type 0} → Result A Stop → Type 0 → Type 0
UnlessLost (Err (Broken at)) P = ⊤
UnlessLost (Err NoMemory) P = ⊤
UnlessLost _ P = P

-- by the numbers of their clients, the boxes have shown this, unless something was lost
abbrev pub HaveShown : Result ReplayEnd Stop → (ℕ → Option Shown) → List Shown → Type 0
HaveShown ended boxes shown = UnlessLost ended ((who : ℕ) → who < length shown → boxes who ≡ Some (get_or shown who (untold Silent)))

-- The headline for many clients: lines of the input were replayed for clients with boxes of these kinds, and the reports
-- of all boxes are written, one after another, in the order of the clients' numbers. What the clients were sent is what
-- their boxes have shown at the end.
pub record WasReplayed (with : Setting) (limit : ℕ) (kinds : List Kind) (boxes : ℕ → Option Shown) (history : List Entry) (left rest : Inlet) (before now : Outlet) (result : Result ReplayEnd Stop) : Type 0 where
  pub bytes : List ℕ
  pub takes : Consumes left.left rest.left bytes
  pub few : length bytes ≤ MAX_INPUT
  pub lines : List (List ℕ)
  pub shown : List Shown
  pub kinds_are : map (λ box. box.kind) shown ≡ kinds
  pub ended : Result ReplayEnd Stop
  pub boxes_are : HaveShown ended boxes shown
  pub replayed : IsReplayed (record { with = with; limit = limit; lines = lines; history = history; shown = shown }) ended left bytes
  pub reports : Reports ended result before now (flat_map report_of shown)

-- A read fault is told only where the source counted one, and else none was met; but behind one memory may be wanting, or
-- the session break.
abbrev pub ReplayFaultIs : Result ReplayEnd Stop → Inlet → Inlet → Type 0
ReplayFaultIs (Ok ReadFault) left rest = Rose left.faults rest.faults
ReplayFaultIs (Err (Broken at)) left rest = (rest.faults ≡ left.faults) ⊎ Rose left.faults rest.faults
ReplayFaultIs (Err NoMemory) left rest = (rest.faults ≡ left.faults) ⊎ Rose left.faults rest.faults
ReplayFaultIs _ left rest = rest.faults ≡ left.faults
