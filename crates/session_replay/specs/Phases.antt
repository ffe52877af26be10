-- Where a replay is: while its lines are read and played, where that ended, and while its clients leave.
use Rattle.std.specs.Prelude.{◌≡◌, ◌⊎◌, ◌+◌, ◌<◌, ◌≤◌, ◌==◌, ℕ, Bool, true, false, not, ◌&&◌, ◌||◌, nat_lt, if◌then◌else◌, ⊤, List, [], ◌∷◌, ◌++◌, length, take, map, get_or, Option, Some, None, Ok, Err}
use Rattle.std.specs.declared.result.Result.{Result}
use Rattle.std.specs.List.{list_all}
use Rattle.std.specs.Io.KnownBytes.{Consumes}
use Rattle.kak_ports.specs.Ports.{Inlet}
use Rattle.ui_board.specs.declared.ui.Kind.{Kind}
use Rattle.ui_board.specs.declared.ui.Kind.TheVariants.{Silent}
use Rattle.ui_board.specs.Told.{Shown, untold, json_lines, report_of}
use Rattle.line_reading.specs.declared.limits.TheConstants.{MAX_INPUT}
use Rattle.line_reading.specs.Reading.{IsAll}
use Rattle.session_turns.specs.Lines.{whole_lines, lines_of_input}
use Rattle.session_turns.specs.Histories.{own}
use Rattle.session_turns.specs.Growth.{Begins, How, Short, Unsent, Lost}
use Rattle.session_turns.specs.Headline.{Lost as WasLost}
use Rattle.session_events.specs.declared.event.Entry.{Entry}
use Rattle.session_events.specs.Entries.{is_leave}
use Rattle.session_events.specs.Meaning.{rules}
use Rattle.session_events.specs.Seats.{Seated}
use Rattle.session_lines.specs.declared.playing.Stop.{Stop}
use Rattle.session_lines.specs.declared.playing.Stop.TheVariants.{HistoryFull, Broken, NoMemory, WriteFault}
use Rattle.session_lines.specs.Stops.{IsFull}
use Rattle.session_replay.specs.Settings.{Setting}
use Rattle.session_replay.specs.declared.ends.ReplayEnd.{ReplayEnd}
use Rattle.session_replay.specs.declared.ends.ReplayEnd.TheVariants.{Over, Ended, BadClient, ReadFault, Full}
use Rattle.session_replay.specs.declared.places.ClientPlace.TheVariants as place
use Rattle.session_replay.specs.Written.{Bad, written, lines_for}
use Rattle.session_replay.specs.declared.players.Players.{Players}
use Rattle.session_replay.specs.Clients.{HeldClient, Moment, IsMoment, NoStrangers}
use Rattle.session_replay.specs.Players.{IsPlayCutOff, count_of, moment_of}
use Rattle.session_replay.specs.Partings.{how_at, AreParting}
use Rattle.session_replay.specs.Replays.{Replay, StandsAt, UnlessLost, HaveShown, has_bad, is_over, leave_in_order, ReachesLines, AreFirst, IsNeededFor, IsReplayed}

-- So many clients are ready: no line was played.
pub record AreReady (with : Setting) (count : ℕ) (now : Moment) : Type 0 where
  pub kinds : List Kind
  pub many : length kinds ≡ count
  pub moment : IsMoment with kinds [] now

-- these lines are the first ones of what was taken, and no more was taken than they need
pub record HasGivenLines (left rest : Inlet) (lines : List (List ℕ)) : Type 0 where
  pub bytes : List ℕ
  pub takes : Consumes left.left rest.left bytes
  pub few : length bytes ≤ MAX_INPUT
  pub first : AreFirst left bytes lines
  pub needed : IsNeededFor (length lines) left bytes

-- these lines are the first ones of what was taken
pub record HasFirst (left rest : Inlet) (lines : List (List ℕ)) : Type 0 where
  pub bytes : List ℕ
  pub takes : Consumes left.left rest.left bytes
  pub few : length bytes ≤ MAX_INPUT
  pub first : AreFirst left bytes lines

-- the input has ended, and these are all of its lines
pub record HasAllLines (left rest : Inlet) (lines : List (List ℕ)) : Type 0 where
  pub bytes : List ℕ
  pub takes : Consumes left.left rest.left bytes
  pub few : length bytes ≤ MAX_INPUT
  pub all : IsAll left bytes
  pub lines_are : lines ≡ lines_of_input bytes

-- so many bytes were taken, and these are all lines that they complete
pub record HasWholeLines (left rest : Inlet) (taken : ℕ) (lines : List (List ℕ)) : Type 0 where
  pub bytes : List ℕ
  pub takes : Consumes left.left rest.left bytes
  pub few : length bytes ≤ MAX_INPUT
  pub count : length bytes ≡ taken
  pub lines_are : lines ≡ whole_lines [] bytes

-- a replay of which this is known
abbrev pub replay_of : Setting → ℕ → List (List ℕ) → List Entry → List Shown → Replay
replay_of with limit lines h shown = record { with = with; limit = limit; lines = lines; history = h; shown = shown }

-- each line but the last ones was played behind all before it, whatever the boxes of so many clients have shown
abbrev pub ArePlayedInOrder : Setting → ℕ → ℕ → List (List ℕ) → List Entry → Type 0
ArePlayedInOrder with limit count lines h = (shown : List Shown) → length shown ≡ count → (i : ℕ) → i < length lines → ReachesLines (replay_of with limit lines h shown) (take i lines) false

-- These lines were played, and none is bad; `over` says whether the replay is over by the last one.
pub record HasPlayed (with : Setting) (limit : ℕ) (kinds : List Kind) (lines : List (List ℕ)) (over : Bool) (now : Moment) : Type 0 where
  pub moment : IsMoment with kinds lines now
  pub good : has_bad (length kinds) lines ≡ false
  pub over_is : is_over now.history ≡ over
  pub order : ArePlayedInOrder with limit (length kinds) lines now.history

-- behind lines that were played, one more was: the replay goes on, or is over by it; or it is bad, or was cut off
abbrev pub PlaysOn : Setting → ℕ → List Kind → List (List ℕ) → List ℕ → Result (Option ReplayEnd) Stop → Moment → Moment → Type 0
PlaysOn with limit kinds lines line (Ok None) old new = HasPlayed with limit kinds (lines ++ line ∷ []) false new
PlaysOn with limit kinds lines line (Ok (Some Over)) old new = HasPlayed with limit kinds (lines ++ line ∷ []) true new
PlaysOn with limit kinds lines line (Ok (Some BadClient)) old new = (written (length kinds) line ≡ Bad) × HasPlayed with limit kinds lines false new
PlaysOn with limit kinds lines line (Ok (Some _)) old new = ⊥
PlaysOn with limit kinds lines line (Err why) old new = IsPlayCutOff with why kinds lines line old new

-- and so it is behind whatever lines the clients have played
abbrev pub PlaysOnFor : {S U : Type 0} → Setting → (S → Seated) → (U → Shown) → List ℕ → Result (Option ReplayEnd) Stop → Players S U → Players S U → Type 0
PlaysOnFor with seated shown line result old new = (limit : ℕ) → (kinds : List Kind) → (lines : List (List ℕ)) → length kinds ≡ count_of old → HasPlayed with limit kinds lines false (moment_of seated shown old)
    → PlaysOn with limit kinds lines line result (moment_of seated shown old) (moment_of seated shown new)

-- All lines that were read were played, and the replay is over by the last one or not; of the input this is known.
pub record AllPlayed (with : Setting) (limit : ℕ) (kinds : List Kind) (over : Bool) (now : Moment) (IsRead : List (List ℕ) → Type 0) : Type 0 where
  pub lines : List (List ℕ)
  pub played : HasPlayed with limit kinds lines over now
  pub read : IsRead lines

-- The last line is bad.
pub record MetBad (with : Setting) (limit : ℕ) (kinds : List Kind) (now : Moment) (left rest : Inlet) : Type 0 where
  pub lines : List (List ℕ)
  pub last : List ℕ
  pub bad : written (length kinds) last ≡ Bad
  pub played : HasPlayed with limit kinds lines false now
  pub read : HasGivenLines left rest (lines ++ last ∷ [])

-- The last line was cut off.
pub record WasCutOff (with : Setting) (limit : ℕ) (kinds : List Kind) (now : Moment) (left rest : Inlet) (why : Stop) : Type 0 where
  pub lines : List (List ℕ)
  pub last : List ℕ
  pub old : Moment
  pub played : HasPlayed with limit kinds lines false old
  pub cut : IsPlayCutOff with why kinds lines last old now
  pub read : HasGivenLines left rest (lines ++ last ∷ [])

-- where the playing of an input's lines ended; memory may have been wanting for the next line
abbrev pub HasStopped : Setting → ℕ → List Kind → Result ReplayEnd Stop → Moment → Inlet → Inlet → Type 0
HasStopped with limit kinds (Ok Over) now left rest = AllPlayed with limit kinds true now (HasGivenLines left rest)
HasStopped with limit kinds (Ok Ended) now left rest = AllPlayed with limit kinds false now (HasAllLines left rest)
HasStopped with limit kinds (Ok BadClient) now left rest = MetBad with limit kinds now left rest
HasStopped with limit kinds (Ok ReadFault) now left rest = AllPlayed with limit kinds false now (λ lines. (taken : ℕ) × HasWholeLines left rest taken lines)
HasStopped with limit kinds (Ok Full) now left rest = AllPlayed with limit kinds false now (HasWholeLines left rest MAX_INPUT)
HasStopped with limit kinds (Err why) now left rest = ((why ≡ NoMemory) × AllPlayed with limit kinds false now (HasFirst left rest)) ⊎ WasCutOff with limit kinds now left rest why

-- and so it is whoever the clients are that were ready
abbrev pub PlaysLines : {S U : Type 0} → Setting → (S → Seated) → (U → Shown) → Result ReplayEnd Stop → Players S U → Players S U → Inlet → Inlet → Type 0
PlaysLines with seated shown result old new left rest = (kinds : List Kind) → length kinds ≡ count_of old → IsMoment with kinds [] (moment_of seated shown old)
    → HasStopped with (seated old.seats).limit kinds result (moment_of seated shown new) left rest

-- how far the clients got where one of them was refused
abbrev pub hows_at : ℕ → (ℕ → HeldClient) → ℕ → How
hows_at who held other = if other == who then Short else how_at (held other).place

-- Which of the ways of getting on a replay's clients end with.
abbrev pub IsEnding : How → Type 0
IsEnding Unsent = ⊥
IsEnding Lost = ⊥
IsEnding _ = Unit {0}

-- all leavings among some entries are those of clients with smaller numbers
abbrev pub are_below : ℕ → List Entry → Bool
are_below n entries = list_all (λ entry. not (is_leave entry.event) || nat_lt entry.who n) entries

-- While clients leave behind a moment: what stands behind it, and who has left.
pub record AreLeaving (with : Setting) (kinds : List Kind) (hows : ℕ → How) (next : ℕ) (lines : List (List ℕ)) (before : List Entry) (now : Moment) : Type 0 where
  pub rest : List Entry
  pub split : now.history ≡ before ++ rest
  pub in_order : leave_in_order rest ≡ true
  pub below : are_below next rest ≡ true
  pub parting : AreParting with kinds hows next lines now

-- of each client a beginning stands, and a box of its kind has shown a beginning
abbrev pub AreLost : Setting → List Kind → List (List ℕ) → List Entry → Type 0
AreLost with kinds lines h = (who : ℕ) → who < length kinds → (box : Shown) × (box.kind ≡ get_or kinds who Silent) × StandsAt WasLost with who h (lines_for (length kinds) who lines) (json_lines box.told)

-- memory was wanting or the session broken
abbrev pub IsLossFor : Stop → Type 0
IsLossFor (Broken at) = Unit {0}
IsLossFor NoMemory = Unit {0}
IsLossFor _ = ⊥

-- The clients may leave, one after another.
pub record MayLeave (with : Setting) (count : ℕ) (now : Moment) : Type 0 where
  pub kinds : List Kind
  pub hows : ℕ → How
  pub lines : List (List ℕ)
  pub many : length kinds ≡ count
  pub parting : AreParting with kinds hows 0 lines now

-- Something was lost as clients left: of each a beginning stands, and nobody else has an entry.
pub record IsLostLeaving (with : Setting) (kinds : List Kind) (lines : List (List ℕ)) (before h : List Entry) (why : Stop) : Type 0 where
  pub loss : IsLossFor why
  pub grows : Begins h before
  pub lost : AreLost with kinds lines h
  pub strangers : NoStrangers with (length kinds) h

-- all clients left that were here, or something was lost
abbrev pub DismissesAll : {A : Type 0} → Setting → List Kind → (ℕ → How) → List (List ℕ) → List Entry → Result A Stop → Moment → Type 0
DismissesAll with kinds hows lines before (Ok _) now = AreLeaving with kinds hows (length kinds) lines before now
DismissesAll with kinds hows lines before (Err why) now = IsLostLeaving with kinds lines before now.history why

-- and so it is wherever the clients stand that may leave
abbrev pub DismissesFor : {S U A : Type 0} → Setting → (S → Seated) → (U → Shown) → Result A Stop → Players S U → Players S U → Type 0
DismissesFor with seated shown result old new = (kinds : List Kind) → (hows : ℕ → How) → (lines : List (List ℕ)) → (before : List Entry) → length kinds ≡ count_of old
    → ((who : ℕ) → who < length kinds → IsEnding (hows who)) → AreLeaving with kinds hows 0 lines before (moment_of seated shown old)
    → DismissesAll with kinds hows lines before result (moment_of seated shown new)

-- the reports of boxes that have shown this are held, unless something was lost
abbrev pub HoldReports : Result ReplayEnd Stop → List Shown → (ℕ → HeldClient) → Type 0
HoldReports ended shown held = UnlessLost ended ((who : ℕ) → who < length shown → (held who).report ≡ report_of (get_or shown who (untold Silent)))

-- Lines of an input were replayed for clients with boxes of these kinds, which are held, as their reports are.
pub record WasPlayed (with : Setting) (limit : ℕ) (kinds : List Kind) (ended : Result ReplayEnd Stop) (now : Moment) (left rest : Inlet) : Type 0 where
  pub bytes : List ℕ
  pub takes : Consumes left.left rest.left bytes
  pub few : length bytes ≤ MAX_INPUT
  pub lines : List (List ℕ)
  pub shown : List Shown
  pub kinds_are : map (λ box. box.kind) shown ≡ kinds
  pub replayed : IsReplayed (replay_of with limit lines now.history shown) ended left bytes
  pub reports : HoldReports ended shown now.held
  pub boxes : HaveShown ended (λ who. (now.held who).box) shown

-- and so it is whoever the clients are that were ready
abbrev pub PlaysAndLeaves : {S U : Type 0} → Setting → (S → Seated) → (U → Shown) → Result ReplayEnd Stop → Players S U → Players S U → Inlet → Inlet → Type 0
PlaysAndLeaves with seated shown result old new left rest = (kinds : List Kind) → length kinds ≡ count_of old → IsMoment with kinds [] (moment_of seated shown old)
    → WasPlayed with (seated old.seats).limit kinds result (moment_of seated shown new) left rest

-- something was lost, or nothing was
abbrev pub IsLossOf : Result ReplayEnd Stop → Type 0
IsLossOf (Err (Broken at)) = ⊤
IsLossOf (Err NoMemory) = ⊤
IsLossOf _ = ⊥

abbrev pub IsNoLoss : Result ReplayEnd Stop → Type 0
IsNoLoss (Err (Broken at)) = ⊥
IsNoLoss (Err NoMemory) = ⊥
IsNoLoss _ = ⊤

-- why a replay stopped: the history is full, or the session is broken
abbrev pub Halts : Result ReplayEnd Stop → Seated → Type 0
Halts (Err HistoryFull) seat = IsFull seat
Halts (Err (Broken at)) seat = seat.mark ≡ Some at
Halts _ seat = ⊤
