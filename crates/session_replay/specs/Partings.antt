-- How the clients of a replay leave at its end, one after another.
use Rattle.std.specs.Prelude.{◌≡◌, ◌≢◌, ℕ, ◌<◌, ◌≤◌, ◌⊎◌, true, List, [], length, get_or}
use Rattle.ui_board.specs.declared.ui.Kind.{Kind}
use Rattle.ui_board.specs.declared.ui.Kind.TheVariants.{Silent}
use Rattle.ui_board.specs.Told.{Shown, json_lines}
use Rattle.session_turns.specs.Histories.{own}
use Rattle.session_turns.specs.Growth.{How, Whole, Over, Short, Unsent, Lost}
use Rattle.session_turns.specs.Headline.{End, Left, Closed, Refused, Unwritten, Lost as WasLost}
use Rattle.session_events.specs.declared.event.Entry.{Entry}
use Rattle.session_events.specs.Legal.{Away, is_here, presence_from}
use Rattle.session_events.specs.Meaning.{rules}
use Rattle.session_replay.specs.Settings.{Setting}
use Rattle.session_replay.specs.declared.places.ClientPlace.{ClientPlace}
use Rattle.session_replay.specs.declared.places.ClientPlace.TheVariants as place
use Rattle.session_replay.specs.Written.{lines_for}
use Rattle.session_replay.specs.Clients.{GotTo, LeftAt, HeldClient, Keeps, Moment, NoStrangers}

-- how a client ends that leaves where it got so far
abbrev pub ends_as : How → End
ends_as Whole = Closed
ends_as Over = Left
ends_as Short = Refused
ends_as Unsent = Unwritten
ends_as Lost = WasLost

-- how far a client got with the lines that were played, by where it is behind them
abbrev pub how_at : ClientPlace → How
how_at place.Gone = Over
how_at _ = Whole

-- Where a client stands that got so far, while those who are here leave: one that hasn't come has no line, or its coming
-- was refused.
abbrev pub StandsLast : Setting → How → ClientPlace → ℕ → List Entry → List (List ℕ) → List ℕ → Type 0
StandsLast with how place.Away who history lines told =
    (own (rules with.gives) who history ≡ []) × (told ≡ []) × ((lines ≡ []) ⊎ ((how ≡ Short) × GotTo with Short who history lines told))
StandsLast with how place.Here who history lines told =
    (is_here (presence_from who Away history) ≡ true) × (0 < length lines) × GotTo with how who history lines told
StandsLast with how place.Gone who history lines told = (0 < length lines) × LeftAt with how who history lines told

-- A client of that kind stands there, and its box was told what it was told.
pub record IsParting (with : Setting) (kind : Kind) (how : How) (who : ℕ) (history : List Entry) (lines : List (List ℕ)) (held : HeldClient) : Type 0 where
  pub shown : Shown
  pub kind_is : shown.kind ≡ kind
  pub keeps : Keeps held.place held shown
  pub stands : StandsLast with how held.place who history lines (json_lines shown.told)

-- Behind the written lines that were played, the clients got so far as `hows` says, and of those with smaller numbers than
-- `next` none is here any more; there is no other client.
pub record AreParting (with : Setting) (kinds : List Kind) (hows : ℕ → How) (next : ℕ) (lines : List (List ℕ)) (now : Moment) : Type 0 where
  pub clients : (who : ℕ) → who < length kinds → IsParting with (get_or kinds who Silent) (hows who) who now.history (lines_for (length kinds) who lines) (now.held who)
  pub parted : (who : ℕ) → who < next → (now.held who).place ≢ place.Here
  pub strangers : NoStrangers with (length kinds) now.history
