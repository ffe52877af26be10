-- What a run of the program for a client did: the promise of `kak -ui json`.
use Rattle.std.specs.Prelude.{◌≡◌, ℕ, ◌+◌, ◌⊎◌, Bool, true, false, ◌&&◌, List, [], ◌∷◌, length, codes, ⊤, Ok, Err}
use Rattle.std.specs.Str.{bytes_eq, chars}
use Rattle.std.specs.declared.option.Option.{Option}
use Rattle.std.specs.declared.result.Result.{Result}
use Rattle.kak_ports.specs.Ports.{Inlet, Outlet, Rose}
use Rattle.key_names.specs.declared.key.Key.{Key}
use Rattle.json_ui.specs.Requests.{read_request}
use Rattle.program_words.specs.Files.{is_file_name, edit_keys}
use Rattle.session_events.specs.declared.event.Entry.{Entry}
use Rattle.session_events.specs.Entries.{AreOf}
use Rattle.session_events.specs.Legal.{IsLegal}
use Rattle.session_lines.specs.declared.playing.Stop.{Stop}
use Rattle.session_lines.specs.declared.playing.Stop.TheVariants as stop
use Rattle.session_lines.specs.declared.reading.InputEnd.{InputEnd}
use Rattle.session_lines.specs.declared.reading.InputEnd.TheVariants as ending
use Rattle.session_lines.specs.Serving.{service}
use Rattle.session_lines.specs.Stops.{NoneFailed}
use Rattle.session_lines.specs.Connections.{WasServed}
use Rattle.kak_world.specs.Flat.{Flat}
use Rattle.kak_engine.specs.Steps.{given_by, asked_in, answers_in, AllAsked}
use Rattle.kak_engine.specs.Seating.{WasLost}
use Rattle.kak_engine.specs.Honesty.{Outside, IsHonest}
use Rattle.session_events.specs.declared.limits.TheConstants.{MAX_ENTRIES}
use Rattle.kak_app.specs.declared.program.Status.{Status}
use Rattle.kak_app.specs.declared.program.Status.TheVariants.{Done, Usage, ReadFault, WriteFault, NoMemory, HistoryFull, InputFull, BadClient}

-- the status with which the process ends
abbrev pub code_of : Status → ℕ
code_of Done = 0
code_of Usage = 1
code_of ReadFault = 2
code_of WriteFault = 3
code_of NoMemory = 4
code_of HistoryFull = 5
code_of InputFull = 6
code_of BadClient = 7

-- the words of a client that speaks JSON
abbrev pub is_ui_json : List ℕ → List ℕ → Bool
is_ui_json kind form = bytes_eq kind (codes "-ui") && bytes_eq form (codes "json")

-- whether these are the words for a client: `-ui json`, and a file's name, if there is one
abbrev pub is_client_call : List (List ℕ) → Bool
is_client_call (kind ∷ form ∷ []) = is_ui_json kind form
is_client_call (kind ∷ form ∷ file ∷ []) = is_ui_json kind form && is_file_name (chars file)
is_client_call _ = false

-- the keys that are struck before the first drawing: those that open the file that is named, if one is
abbrev pub keys_at_start : List (List ℕ) → List Key
keys_at_start (kind ∷ form ∷ file ∷ []) = edit_keys (chars file)
keys_at_start _ = []

-- a full history has as many entries as it may have, and the leaving
abbrev pub IsHistoryFull : Result InputEnd Stop → List Entry → Type 0
IsHistoryFull (Err stop.HistoryFull) history = length history ≡ MAX_ENTRIES + 1
IsHistoryFull _ history = ⊤

-- how the count of failed reads stands: it rose where a read fault is told, and stayed elsewhere; behind a loss either
abbrev pub ReadsAre : Result InputEnd Stop → Inlet → Inlet → Type 0
ReadsAre (Ok ending.ReadFault) left rest = Rose left.faults rest.faults
ReadsAre (Ok _) left rest = rest.faults ≡ left.faults
ReadsAre (Err stop.HistoryFull) left rest = rest.faults ≡ left.faults
ReadsAre (Err stop.WriteFault) left rest = rest.faults ≡ left.faults
ReadsAre (Err _) left rest = (rest.faults ≡ left.faults) ⊎ Rose left.faults rest.faults

-- how the count of failed writes stands: it rose where a write fault is told, and stayed elsewhere
abbrev pub WritesAre : Result InputEnd Stop → Outlet → Outlet → Type 0
WritesAre (Err stop.WriteFault) before now = Rose before.faults now.faults
WritesAre _ before now = NoneFailed before now

-- What is around a run: its input, its output, and its outside.
pub record Around : Type 0 where
  pub inlet : Inlet
  pub outlet : Outlet
  pub outside : Outside

abbrev pub around_run : Inlet → Outlet → Outside → Around
around_run inlet outlet outside = record { inlet = inlet; outlet = outlet; outside = outside }

-- The outside was asked for what a history says, and was honest, as far as memory went. A step that it was wanting for has no entry: in
-- it the outside was asked for a beginning of what the step asks for. Then it was asked that each text be rescued which may differ
-- from what was saved, of the world that the history leads to, or that such a step left; and for nothing else.
pub record WasHonestBefore (history : List Entry) (first last : Outside) : Type 0 where
  pub mark : Option ℕ
  pub inside : Flat
  pub lost : WasLost history mark inside first last

-- whether memory was wanting, as how serving or playing ended tells
abbrev pub is_lost : {A : Type 0} → Result A Stop → Bool
is_lost (Err stop.NoMemory) = true
is_lost (Err (stop.Broken at)) = true
is_lost _ = false

-- how the outside was left: it was asked for what the whole history says and was honest, or where memory was wanting, as far as
-- that went, and for its texts to be rescued
abbrev pub OutsideIs : {A : Type 0} → Result A Stop → List Entry → Outside → Outside → Type 0
OutsideIs (Err stop.NoMemory) history first last = WasHonestBefore history first last
OutsideIs (Err (stop.Broken at)) history first last = WasHonestBefore history first last
OutsideIs _ history first last = IsHonest (answers_in history) (asked_in history) first last

-- Client 0 was served, with these keys before its first drawing: there is a history that there can be, with no entry of
-- anybody else, and what was read, what stands in that history and what was written belong together as they do at the end of
-- a connection. In each entry the outside answered what it was asked for, it was asked for nothing else, and it was honest:
-- each read was answered by what the files held, what they hold is what the writes left, and each failure was counted.
pub record Ran (keys : List Key) (result : Result InputEnd Stop) (old new : Around) : Type 0 where
  pub history : List Entry
  pub alone : AreOf 0 history
  pub legal : IsLegal MAX_ENTRIES history
  pub served : WasServed false (service given_by read_request keys) 0 history old.outlet new.outlet old.inlet new.inlet result
  pub asked : AllAsked history
  pub honest : OutsideIs result history old.outside new.outside
  pub full : IsHistoryFull result history
  pub reads : ReadsAre result old.inlet new.inlet
  pub writes : WritesAre result old.outlet new.outlet

-- what each status says of the bytes of the input and of the output, of the files and the maker of patterns, and of the counts
-- of their faults
abbrev pub RunAnswers : List Key → Status → Around → Around → Type 0
RunAnswers keys Done old new = Ran keys (Ok ending.Left) old new ⊎ Ran keys (Ok ending.Ended) old new
RunAnswers keys Usage old new = new ≡ old
RunAnswers keys ReadFault old new = Ran keys (Ok ending.ReadFault) old new
RunAnswers keys WriteFault old new = Ran keys (Err stop.WriteFault) old new
RunAnswers keys NoMemory old new = Ran keys (Err stop.NoMemory) old new
RunAnswers keys HistoryFull old new = Ran keys (Err stop.HistoryFull) old new
RunAnswers keys InputFull old new = Ran keys (Ok ending.Full) old new
RunAnswers keys BadClient old new = ⊥
