-- What is held for each client of a replay, and what becomes of it where a written line is played.
use Rattle.std.specs.Prelude.{◌≡◌, ◌≢◌, ℕ, ◌<◌, ◌⊎◌, Bool, true, false, List, [], ◌∷◌, ◌++◌, length, map, flat_map, get_or, Option, Some, None, is_none, Ok, Err, OnOk}
use Rattle.std.specs.declared.result.Result.{Result}
use Rattle.ui_board.specs.declared.ui.Kind.{Kind}
use Rattle.ui_board.specs.declared.ui.Kind.TheVariants.{Silent}
use Rattle.ui_board.specs.Told.{Told, Shown, json_lines}
use Rattle.ui_board.specs.Boards.{shown_at, report_at}
use Rattle.session_turns.specs.Histories.{own}
use Rattle.session_turns.specs.Growth.{Begins, How, Whole, Over, Lost}
use Rattle.session_events.specs.declared.event.Entry.{Entry}
use Rattle.session_events.specs.Legal.{Away, is_here, presence_from}
use Rattle.session_events.specs.Meaning.{rules}
use Rattle.session_events.specs.Seats.{Seated}
use Rattle.session_lines.specs.declared.playing.Stop.{Stop}
use Rattle.session_lines.specs.Serving.{how_of}
use Rattle.session_lines.specs.Stops.{Stops}
use Rattle.session_replay.specs.Settings.{Setting}
use Rattle.session_replay.specs.declared.places.ClientPlace.{ClientPlace}
use Rattle.session_replay.specs.declared.places.ClientPlace.TheVariants as place
use Rattle.session_replay.specs.declared.players.Players.{Players}
use Rattle.session_replay.specs.declared.players.ReplayClient.{ReplayClient}
use Rattle.session_replay.specs.declared.players.Taken.{Taken}
use Rattle.session_replay.specs.declared.players.Taken.TheVariants as taken
use Rattle.session_replay.specs.Written.{Of, Bad, written, lines_for}
use Rattle.session_replay.specs.Boxes.{kind_in, told_in}
use Rattle.session_replay.specs.Clients.{GotTo, LeftAt, HeldClient, IsClient, Moment, moment, IsMoment, GrowsBy}
use Rattle.session_replay.specs.Staying.{IsSessionStill}
use Rattle.session_replay.specs.Replays.{is_bad}

-- where the clients are, in the order of their numbers
abbrev pub places : List ReplayClient → List ClientPlace
places clients = map (λ client. client.place) clients

-- the reports of the boxes of those that have gone
abbrev pub reports : List ReplayClient → List (List ℕ)
reports clients = map (λ client. client.report.items) clients

-- what is held for each client, by a word for what a box has shown
abbrev pub held_of : {B : Type 0} → (B → Shown) → List (Option B) → List ReplayClient → ℕ → HeldClient
held_of shown seats clients who = record { place = get_or (places clients) who place.Away; box = shown_at shown who seats; report = get_or (reports clients) who [] }

-- how many clients there are
abbrev pub count_of : {S U : Type 0} → Players S U → ℕ
count_of players = length players.clients.items

-- what players hold for each client, by a word for what a box has shown
abbrev pub held : {S U : Type 0} → (U → Shown) → Players S U → ℕ → HeldClient
held shown players = held_of shown players.board.seats.items players.clients.items

-- the moment at which players are, by a word for what their seats are seen as too
abbrev pub moment_of : {S U : Type 0} → (S → Seated) → (U → Shown) → Players S U → Moment
moment_of seated shown players = moment (seated players.seats).seen (held shown players)

-- The players go on: there are as many as before, their session is the same still, and where something stopped, that has its
-- reason.
pub record ArePlayersStill {S U K A : Type 0} (seated : S → Seated) (kept : S → K) (result : Result A Stop) (old new : Players S U) : Type 0 where
  pub session : IsSessionStill seated kept result old.seats new.seats
  pub count : count_of new ≡ count_of old
  pub stops : Stops result (seated new.seats)

-- nothing is held for any client but what was held
abbrev pub IsHeldStill : (ℕ → HeldClient) → (ℕ → HeldClient) → Type 0
IsHeldStill old new = (who : ℕ) → new who ≡ old who

-- nor for any other client
abbrev pub OthersAreHeld : ℕ → (ℕ → HeldClient) → (ℕ → HeldClient) → Type 0
OthersAreHeld who old new = (other : ℕ) → other ≢ who → new other ≡ old other

-- All that came about is one client's: no other has an entry more, and all others are held as they were.
pub record ConcernsOnly (with : Setting) (who : ℕ) (old new : Moment) : Type 0 where
  pub grows : GrowsBy with who old.history new.history
  pub others : OthersAreHeld who old.held new.held

-- what is held for a client that was let go: its box, and the report of it
abbrev pub let_off : Option Shown → HeldClient
let_off box = record { place = place.Gone; box = box; report = report_at box }

-- a client is there by the history: it hasn't come, or is here
abbrev pub IsAt : Setting → ClientPlace → ℕ → List Entry → Type 0
IsAt with place.Away who history = own (rules with.gives) who history ≡ []
IsAt with place.Here who history = is_here (presence_from who Away history) ≡ true
IsAt with place.Gone who history = ⊥

-- A client hasn't come: it has no entry, and its box, which is at its seat, was told nothing.
pub record HasNotCome (with : Setting) (who : ℕ) (now : Moment) : Type 0 where
  pub away : own (rules with.gives) who now.history ≡ []
  pub at : (now.held who).place ≡ place.Away
  pub boxed : is_none (now.held who).box ≡ false
  pub untold : told_in (now.held who).box ≡ []

-- A client came, and its connection was opened, or that was stopped: it is where it is held to be, and got so far; its box is
-- at its seat still, and is what it was but for what it was told.
pub record IsReceived (with : Setting) (who : ℕ) (result : Result Bool Stop) (old new : Moment) : Type 0 where
  pub at : IsAt with (new.held who).place who new.history
  pub came : OnOk result ((new.held who).place ≡ place.Here)
  pub here : OnOk result (is_here (presence_from who Away new.history) ≡ true)
  pub got : GotTo with (how_of result) who new.history [] (told_in (new.held who).box)
  pub boxed : is_none (new.held who).box ≡ false
  pub report : (new.held who).report ≡ (old.held who).report
  pub kind : kind_in (new.held who).box ≡ kind_in (old.held who).box

-- A client of that kind is here with its box, and got so far.
pub record IsHere (with : Setting) (how : How) (kind : Kind) (who : ℕ) (history : List Entry) (lines : List (List ℕ)) (held : HeldClient) : Type 0 where
  pub shown : Shown
  pub kind_is : shown.kind ≡ kind
  pub box : held.box ≡ Some shown
  pub report : held.report ≡ []
  pub at : held.place ≡ place.Here
  pub here : is_here (presence_from who Away history) ≡ true
  pub got : GotTo with how who history lines (json_lines shown.told)

-- something was lost as a client was to leave that got so far: it hasn't left, or it has
abbrev pub IsLostLeaver : Setting → How → Stop → ℕ → List Entry → List (List ℕ) → List ℕ → Type 0
IsLostLeaver with how why who history lines told = (how_of (Err why) ≡ Lost) × (GotTo with how who history lines told ⊎ LeftAt with how who history lines told)

-- and so it is however far it got before
abbrev pub LosesLeaver : Setting → ℕ → List Entry → List Entry → Stop → Type 0
LosesLeaver with who old new why = (how : How) → (lines : List (List ℕ)) → (told : List ℕ) → GotTo with how who old lines told → IsLostLeaver with how why who new lines told

-- how far a client got of which a line was stopped: as that says, or something was lost as it was to leave
abbrev pub GetsStopped : Setting → Stop → ClientPlace → ℕ → List Entry → List (List ℕ) → List ℕ → Type 0
GetsStopped with why at who history lines told =
    (IsAt with at who history × GotTo with (how_of (Err why)) who history lines told)
    ⊎ IsLostLeaver with Over why who history lines told

-- Playing the last of its lines for a client of that kind was stopped; its box is there still.
pub record IsStopped (with : Setting) (why : Stop) (kind : Kind) (who : ℕ) (history : List Entry) (lines : List (List ℕ)) (held : HeldClient) : Type 0 where
  pub shown : Shown
  pub kind_is : shown.kind ≡ kind
  pub box : held.box ≡ Some shown
  pub report : held.report ≡ []
  pub gets : GetsStopped with why held.place who history lines (json_lines shown.told)

-- A line was played for a client: it has left by it, or is here.
abbrev pub TakesLine : Setting → Kind → ℕ → Result Bool Stop → List Entry → List (List ℕ) → HeldClient → Type 0
TakesLine with kind who (Ok true) history lines held = IsClient with kind who history lines held × (held.place ≡ place.Gone)
TakesLine with kind who (Ok false) history lines held = IsClient with kind who history lines held × (held.place ≡ place.Here)
TakesLine with kind who (Err why) history lines held = IsStopped with why kind who history lines held

-- A line of a client that had gone was passed over.
pub record PassesLine (with : Setting) (kind : Kind) (who : ℕ) (result : Result Bool Stop) (old new : List Entry) (lines : List (List ℕ)) (held : HeldClient) : Type 0 where
  pub stays : result ≡ Ok false
  pub same : new ≡ old
  pub client : IsClient with kind who new lines held

-- whatever lines were played for a client that is here, one more is
abbrev pub TakesNext : Setting → ℕ → List ℕ → Result Bool Stop → Moment → Moment → Type 0
TakesNext with who line result old new = (kind : Kind) → (lines : List (List ℕ)) → IsHere with Whole kind who old.history lines (old.held who)
    → TakesLine with kind who result new.history (lines ++ line ∷ []) (new.held who)

-- whatever kind of box a client has that hasn't come, its first line is played for it
abbrev pub TakesFirst : Setting → ℕ → List ℕ → Result Bool Stop → Moment → Moment → Type 0
TakesFirst with who line result old new = (kind : Kind) → kind_in (old.held who).box ≡ Some kind → TakesLine with kind who result new.history (line ∷ []) (new.held who)

-- whatever lines a client stands behind, one more is played for it or passed over
abbrev pub TakesOrPasses : Setting → ℕ → List ℕ → Result Bool Stop → Moment → Moment → Type 0
TakesOrPasses with who line result old new = (kind : Kind) → (lines : List (List ℕ)) → IsClient with kind who old.history lines (old.held who)
    → TakesLine with kind who result new.history (lines ++ line ∷ []) (new.held who)
    ⊎ PassesLine with kind who result old.history new.history (lines ++ line ∷ []) (new.held who)

-- a client stands somewhere
abbrev pub IsSomewhere : Setting → ℕ → Moment → Type 0
IsSomewhere with who now = (kind : Kind) × (lines : List (List ℕ)) × IsClient with kind who now.history lines (now.held who)

-- Playing a written line was stopped for its client, which alone has entries more; all others are held as they were.
pub record IsPlayCutOff (with : Setting) (why : Stop) (kinds : List Kind) (lines : List (List ℕ)) (written_line : List ℕ) (old new : Moment) : Type 0 where
  pub who : ℕ
  pub line : List ℕ
  pub is : written (length kinds) written_line ≡ Of who line
  pub inside : who < length kinds
  pub alone : ConcernsOnly with who old new
  pub stopped : IsStopped with why (get_or kinds who Silent) who new.history (lines_for (length kinds) who lines ++ line ∷ []) (new.held who)

-- A written line that isn't bad was played behind some lines, or is blank.
pub record IsPlayed (with : Setting) (kinds : List Kind) (lines : List (List ℕ)) (written_line : List ℕ) (old : List Entry) (new : Moment) : Type 0 where
  pub good : is_bad (written (length kinds) written_line) ≡ false
  pub grows : Begins new.history old
  pub moment : IsMoment with kinds (lines ++ written_line ∷ []) new

-- a client is there
abbrev pub SomeIsAt : ClientPlace → ℕ → (ℕ → HeldClient) → Type 0
SomeIsAt at count held = (who : ℕ) × (who < count) × ((held who).place ≡ at)

-- no client is there
abbrev pub NoneIsAt : ClientPlace → ℕ → (ℕ → HeldClient) → Type 0
NoneIsAt at count held = (who : ℕ) → who < count → (held who).place ≢ at

-- A written line was played behind some lines. Where nobody left by it, somebody is here, or nothing came of it; where it
-- is bad, all is as it was.
abbrev pub TakesWritten : Setting → List Kind → List (List ℕ) → List ℕ → Result Taken Stop → Moment → Moment → Type 0
TakesWritten with kinds lines line (Ok taken.Stayed) old new =
    IsPlayed with kinds lines line old.history new × (SomeIsAt place.Here (length kinds) new.held ⊎ (new.history ≡ old.history))
TakesWritten with kinds lines line (Ok taken.Left) old new =
    IsPlayed with kinds lines line old.history new × SomeIsAt place.Gone (length kinds) new.held
TakesWritten with kinds lines line (Ok taken.Bad) old new =
    (written (length kinds) line ≡ Bad) × (new.history ≡ old.history) × IsHeldStill old.held new.held
TakesWritten with kinds lines line (Err why) old new = IsPlayCutOff with why kinds lines line old new

-- and so it is behind whatever lines the clients stand
abbrev pub PlaysWritten : {S U : Type 0} → Setting → (S → Seated) → (U → Shown) → List ℕ → Result Taken Stop → Players S U → Players S U → Type 0
PlaysWritten with seated shown line result old new = (kinds : List Kind) → (lines : List (List ℕ)) → length kinds ≡ count_of old → IsMoment with kinds lines (moment_of seated shown old)
    → TakesWritten with kinds lines line result (moment_of seated shown old) (moment_of seated shown new)

-- The clients stand behind some lines.
pub record AreSomewhere (with : Setting) (count : ℕ) (now : Moment) : Type 0 where
  pub kinds : List Kind
  pub lines : List (List ℕ)
  pub many : length kinds ≡ count
  pub moment : IsMoment with kinds lines now

-- the kinds of boxes, in order
abbrev pub kinds_of : {B : Type 0} → (B → Shown) → List B → List Kind
kinds_of shown boxes = map (λ box. (shown box).kind) boxes

-- all that any of some boxes was told
abbrev pub told_by_all : {B : Type 0} → (B → Shown) → List B → List Told
told_by_all shown boxes = flat_map (λ box. (shown box).told) boxes

-- where the session has no entry, and the boxes were told nothing, these are players of which none has come
abbrev pub BeginAway : {S U : Type 0} → Setting → (S → Seated) → (U → Shown) → S → List U → Players S U → Type 0
BeginAway with seated shown seats boxes players = (seated seats).seen ≡ [] → told_by_all shown boxes ≡ [] → IsMoment with (kinds_of shown boxes) [] (moment_of seated shown players)
