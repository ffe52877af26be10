-- Where the clients of a replay stand behind the lines that were played.
use Rattle.std.specs.Prelude.{◌≡◌, ◌≢◌, ℕ, ◌<◌, ◌≤◌, ◌⊎◌, Bool, true, List, [], ◌∷◌, ◌++◌, length, get_or, Option, Some}
use Rattle.ui_board.specs.declared.board.Board.{Board}
use Rattle.ui_board.specs.declared.ui.Kind.{Kind}
use Rattle.ui_board.specs.declared.ui.Kind.TheVariants.{Silent}
use Rattle.ui_board.specs.Told.{Shown, json_lines, report_of}
use Rattle.session_turns.specs.Histories.{Answer, own, answers, events_of}
use Rattle.session_turns.specs.Turns.{phases, turns_of}
use Rattle.session_turns.specs.Growth.{How, Whole, Over, Fits, Adds}
use Rattle.session_events.specs.declared.event.Event.{Event}
use Rattle.session_events.specs.declared.event.Event.TheVariants.{Leave}
use Rattle.session_events.specs.declared.event.Entry.{Entry}
use Rattle.session_events.specs.Legal.{Away, is_here, presence_from}
use Rattle.session_events.specs.Meaning.{rules}
use Rattle.session_events.specs.Seats.{Seated}
use Rattle.session_lines.specs.declared.playing.Stop.{Stop}
use Rattle.session_lines.specs.declared.playing.Stop.TheVariants.{NoMemory}
use Rattle.session_lines.specs.Session.{protocol}
use Rattle.session_lines.specs.Stops.{IsLoss}
use Rattle.session_replay.specs.Settings.{Setting}
use Rattle.session_replay.specs.Boxes.{told_to}
use Rattle.session_replay.specs.declared.places.ClientPlace.{ClientPlace}
use Rattle.session_replay.specs.declared.places.ClientPlace.TheVariants as place
use Rattle.session_replay.specs.Written.{lines_for}

-- A client got so far with its opening and these lines, as `how` says: this is its part of the history, and this it was told.
pub record GotTo (with : Setting) (how : How) (who : ℕ) (history : List Entry) (lines : List (List ℕ)) (told : List ℕ) : Type 0 where
  pub got : List (Answer Event)
  pub adds : Adds (rules with.gives) who [] history got
  pub fits : Fits (protocol with.reads []) how (phases (turns_of lines)) got told

-- A client got so far, and then it left.
pub record LeftAt (with : Setting) (how : How) (who : ℕ) (history : List Entry) (lines : List (List ℕ)) (told : List ℕ) : Type 0 where
  pub got : List (Answer Event)
  pub answered : answers (rules with.gives) who history ≡ got
  pub events : own (rules with.gives) who history ≡ events_of got ++ Leave ∷ []
  pub fits : Fits (protocol with.reads []) how (phases (turns_of lines)) got told

-- A client comes with its first line: one that hasn't come has no line and no entry, and was told nothing; one that is here
-- was played all of its lines; one that has gone was let go by one of them, and the lines behind it are passed over.
abbrev pub ClientStands : Setting → ClientPlace → ℕ → List Entry → List (List ℕ) → List ℕ → Type 0
ClientStands with place.Away who history lines told = (own (rules with.gives) who history ≡ []) × (lines ≡ []) × (told ≡ [])
ClientStands with place.Here who history lines told =
    (is_here (presence_from who Away history) ≡ true) × (0 < length lines) × GotTo with Whole who history lines told
ClientStands with place.Gone who history lines told = (0 < length lines) × LeftAt with Over who history lines told

-- What is held for a client: where it is, its box, and the report of its box once it has gone.
pub record HeldClient : Type 0 where
  pub place : ClientPlace
  pub box : Option Shown
  pub report : List ℕ

-- what was shown is in the client's box, and nothing is reported yet; or the client has left, and it is reported
abbrev pub Keeps : ClientPlace → HeldClient → Shown → Type 0
Keeps place.Gone held shown = (held.box ≡ Some shown) × (held.report ≡ report_of shown)
Keeps _ held shown = (held.box ≡ Some shown) × (held.report ≡ [])

-- A client of that kind stands there, and its box was told what it was told.
pub record IsClient (with : Setting) (kind : Kind) (who : ℕ) (history : List Entry) (lines : List (List ℕ)) (held : HeldClient) : Type 0 where
  pub shown : Shown
  pub kind_is : shown.kind ≡ kind
  pub keeps : Keeps held.place held shown
  pub stands : ClientStands with held.place who history lines (json_lines shown.told)

-- A moment of a replay: the entries that stand, and what is held for each client.
pub record Moment : Type 0 where
  pub history : List Entry
  pub held : ℕ → HeldClient

abbrev pub moment : List Entry → (ℕ → HeldClient) → Moment
moment history held = record { history = history; held = held }

-- beyond so many clients, none has an entry
abbrev pub NoStrangers : Setting → ℕ → List Entry → Type 0
NoStrangers with count history = (who : ℕ) → count ≤ who → own (rules with.gives) who history ≡ []

-- Behind some written lines, each client of these kinds stands behind its own of them, and there is no other client.
pub record IsMoment (with : Setting) (kinds : List Kind) (lines : List (List ℕ)) (now : Moment) : Type 0 where
  pub clients : (who : ℕ) → who < length kinds → IsClient with (get_or kinds who Silent) who now.history (lines_for (length kinds) who lines) (now.held who)
  pub strangers : NoStrangers with (length kinds) now.history

-- A history grew by entries of one client alone.
pub record GrowsBy (with : Setting) (who : ℕ) (old new : List Entry) : Type 0 where
  pub more : List Entry
  pub grows : new ≡ old ++ more
  pub alone : (other : ℕ) → other ≢ who → own (rules with.gives) other more ≡ []

-- A client left, and nothing else happened.
pub record LeavesAlone (who : ℕ) (old new : List Entry) : Type 0 where
  pub entry : Entry
  pub stands : new ≡ old ++ entry ∷ []
  pub maker : entry.who ≡ who
  pub event : entry.event ≡ Leave

-- However far a client got that is to leave: it has left, and memory was wanting behind that; or it hasn't left, as the session
-- was lost.
abbrev pub LeavesOrStays : (List Entry → Bool) → Setting → ℕ → List Entry → Seated → Stop → Type 0
LeavesOrStays parting with who old seat why = (how : How) → (lines : List (List ℕ)) → (told : List ℕ) → GotTo with how who old lines told
    → ((why ≡ NoMemory) × LeftAt with how who seat.seen lines told) ⊎ (IsLoss parting why seat × GotTo with how who seat.seen lines told)

-- whatever lines a client was played that is here, one more was, and it got so far, as its box on a board was told
abbrev pub GetsOn : {U : Type 0} → Setting → (U → Shown) → How → ℕ → List ℕ → List Entry → List Entry → Board U → Board U → Type 0
GetsOn with shown how who line old new before now = (lines : List (List ℕ)) → GotTo with Whole who old lines (told_to shown who before) → GotTo with how who new (lines ++ line ∷ []) (told_to shown who now)
