-- What a replay did: the promise of `kakreplay`.
use Rattle.std.specs.Prelude.{◌≡◌, ℕ, ◌⊎◌, Bool, true, false, ◌&&◌, ◌==◌, nat_le, List, [], ◌∷◌, length, codes, Ok, Err}
use Rattle.std.specs.Str.{bytes_eq}
use Rattle.std.specs.declared.option.Option.{Option}
use Rattle.std.specs.declared.result.Result.{Result}
use Rattle.ui_board.specs.declared.ui.Kind.{Kind}
use Rattle.ui_board.specs.declared.ui.Kind.TheVariants.{Json, Silent, Screen}
use Rattle.ui_board.specs.Told.{Shown}
use Rattle.session_events.specs.declared.event.Entry.{Entry}
use Rattle.session_events.specs.Legal.{IsLegal}
use Rattle.session_lines.specs.declared.playing.Stop.{Stop}
use Rattle.session_lines.specs.declared.playing.Stop.TheVariants as stop
use Rattle.session_replay.specs.declared.ends.ReplayEnd.{ReplayEnd}
use Rattle.session_replay.specs.declared.ends.ReplayEnd.TheVariants as ending
use Rattle.session_replay.specs.Players.{kinds_of}
use Rattle.session_replay.specs.Replays.{WasReplayed, ReplayFaultIs}
use Rattle.json_ui.specs.Requests.{read_request}
use Rattle.session_replay.specs.Settings.{setting}
use Rattle.kak_engine.specs.Steps.{given_by, AllAsked}
use Rattle.session_events.specs.declared.limits.TheConstants.{MAX_ENTRIES}
use Rattle.kak_app.specs.declared.program.Status.{Status}
use Rattle.kak_app.specs.declared.program.Status.TheVariants.{Done, Usage, ReadFault, WriteFault, NoMemory, HistoryFull, InputFull, BadClient}
use Rattle.kak_app.specs.Runs.{Around, OutsideIs}

-- whether a word says a kind of user interface
abbrev pub says_kind : List ℕ → Kind → Bool
says_kind word Json = bytes_eq word (codes "json")
says_kind word Silent = bytes_eq word (codes "silent")
says_kind word Screen = bytes_eq word (codes "screen")

-- whether each of some words says the kind of one user interface, in their order
abbrev pub say_kinds : List (List ℕ) → List Kind → Bool
say_kinds [] [] = true
say_kinds (word ∷ words) (kind ∷ kinds) = says_kind word kind && say_kinds words kinds
say_kinds [] (kind ∷ kinds) = false
say_kinds (word ∷ words) [] = false

-- whether there are so many user interfaces as there are words, and these are 1 to 64
abbrev pub is_ui_count : ℕ → ℕ → Bool
is_ui_count count words = nat_le 1 words && nat_le words 64 && count == words

-- whether the program may be called by these words, with user interfaces of these kinds: each word says the kind of one
abbrev pub is_replay_call : List (List ℕ) → List Kind → Bool
is_replay_call words kinds = is_ui_count (length kinds) (length words) && say_kinds words kinds

-- the same of user interfaces, by a word for what each has shown
abbrev pub is_call_for : {B : Type 0} → (B → Shown) → List (List ℕ) → List B → Bool
is_call_for shown words uis = is_replay_call words (kinds_of shown uis)

-- Lines were replayed for clients with boxes of these kinds: there is one history that there can be, and what was read, what
-- stands in it, what its clients were sent, and what was written belong together. In each entry the outside answered what it
-- was asked for, it was asked for nothing else, and it was honest. By the numbers of their clients these boxes have shown at the
-- end what their clients were sent, unless something was lost.
pub record Replayed (kinds : List Kind) (boxes : ℕ → Option Shown) (result : Result ReplayEnd Stop) (old new : Around) : Type 0 where
  pub history : List Entry
  pub legal : IsLegal MAX_ENTRIES history
  pub replayed : WasReplayed (setting given_by read_request) MAX_ENTRIES kinds boxes history old.inlet new.inlet old.outlet new.outlet result
  pub asked : AllAsked history
  pub honest : OutsideIs result history old.outside new.outside
  pub fault : ReplayFaultIs result old.inlet new.inlet

-- what each status says
abbrev pub ReplayAnswers : List Kind → (ℕ → Option Shown) → Status → Around → Around → Type 0
ReplayAnswers kinds boxes Done old new = Replayed kinds boxes (Ok ending.Over) old new ⊎ Replayed kinds boxes (Ok ending.Ended) old new
ReplayAnswers kinds boxes Usage old new = new ≡ old
ReplayAnswers kinds boxes ReadFault old new = Replayed kinds boxes (Ok ending.ReadFault) old new
ReplayAnswers kinds boxes WriteFault old new = Replayed kinds boxes (Err stop.WriteFault) old new
ReplayAnswers kinds boxes NoMemory old new = Replayed kinds boxes (Err stop.NoMemory) old new
ReplayAnswers kinds boxes HistoryFull old new = Replayed kinds boxes (Err stop.HistoryFull) old new
ReplayAnswers kinds boxes InputFull old new = Replayed kinds boxes (Ok ending.Full) old new
ReplayAnswers kinds boxes BadClient old new = Replayed kinds boxes (Ok ending.BadClient) old new

-- a status says how a replay ended
abbrev pub StatusSays : Result ReplayEnd Stop → Status → Type 0
StatusSays ended status = (kinds : List Kind) (boxes : ℕ → Option Shown) (old new : Around) → Replayed kinds boxes ended old new → ReplayAnswers kinds boxes status old new
