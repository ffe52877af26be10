-- What a run of a generated session did: the promise of `kak gen`.
use Rattle.std.specs.Prelude.{◌≡◌, ℕ, zero, suc, Bool, ◌||◌, is_some, List, [], ◌∷◌, ◌++◌, length, map, Option, Some, None}
use Rattle.text_model.specs.Texts.{line_count}
use Rattle.session_turns.specs.Growth.{Begins}
use Rattle.kak_ports.specs.Ports.{Puts, PutIsCounted}
use Rattle.kak_ports.specs.declared.sink.Put.{Put}
use Rattle.kak_ports.specs.declared.sink.Put.TheVariants as put
use Rattle.program_words.specs.declared.generated.GenWords.{GenWords}
use Rattle.program_words.specs.GenWords.{gen_words}
use Rattle.session_draws.specs.declared.draws.Strike.{Strike}
use Rattle.session_draws.specs.Draws.{strikes}
use Rattle.session_draws.specs.Summary.{head_text, sels_line}
use Rattle.session_events.specs.declared.event.Event.{Event}
use Rattle.session_events.specs.declared.event.Event.TheVariants.{Join, Key as Struck, Leave}
use Rattle.session_events.specs.declared.event.Entry.{Entry}
use Rattle.kak_world.specs.Flat.{Flat, text_of, sels_of}
use Rattle.kak_engine.specs.Steps.{run, asked_in, answers_in, AllAsked}
use Rattle.kak_engine.specs.Honesty.{IsHonest}
use Rattle.kak_app.specs.declared.program.Status.{Status}
use Rattle.kak_app.specs.declared.program.Status.TheVariants.{Done, WriteFault, NoMemory}
use Rattle.kak_app.specs.Runs.{Around, WasHonestBefore, is_client_call, keys_at_start, RunAnswers}

-- What a client does, whatever the outside answers.
pub record Move : Type 0 where
  pub who : ℕ
  pub event : Event

abbrev pub made_by : ℕ → Event → Move
made_by who event = record { who = who; event = event }

-- the moves of the entries of a history
abbrev pub move_of : Entry → Move
move_of entry = made_by entry.who entry.event

abbrev pub moves_of : List Entry → List Move
moves_of history = map move_of history

-- the same event of so many clients, in the order of their numbers
abbrev pub each_makes : Event → ℕ → List Move
each_makes event zero = []
each_makes event (suc n) = each_makes event n ++ made_by n event ∷ []

-- the clients come, and they go
abbrev pub comings : ℕ → List Move
comings clients = each_makes Join clients

abbrev pub goings : ℕ → List Move
goings clients = each_makes Leave clients

-- the strikes that are drawn
abbrev pub struck_by : Strike → Move
struck_by strike = made_by strike.who (Struck strike.key)

abbrev pub drawn_moves : ℕ → ℕ → ℕ → List Move
drawn_moves clients keys state = map struck_by (strikes clients keys state)

-- a generated session: its clients come, and strike the keys that are drawn
abbrev pub generated : GenWords → List Move
generated session = comings session.clients ++ drawn_moves session.clients session.keys session.seed

-- the same, and then they go
abbrev pub generated_whole : GenWords → List Move
generated_whole session = generated session ++ goings session.clients

-- the lines of so many clients: how many selections each has on the text that it sees
abbrev pub sels_lines : Flat → ℕ → List ℕ
sels_lines flat zero = []
sels_lines flat (suc n) = sels_lines flat n ++ sels_line n (length (sels_of n flat).list)

-- the summary of a history with so many clients: how many entries it has, and the numbers of the world that it leads to. No key
-- that is drawn shows another buffer, so what client 0 sees is `*scratch*`
abbrev pub summary_of : ℕ → List Entry → List ℕ
summary_of clients history =
    head_text (length history) (length (text_of 0 (run history))) (line_count (text_of 0 (run history))) ++ sels_lines (run history) clients

-- A generated session was played to its end, and its summary was put: each entry is the next move, the outside answered in it
-- what it was asked for, it was asked for nothing else, and it was honest. Of the input nothing was read. The summary is that of
-- the history before the clients go; where the put failed, a front of it was written.
pub record GenPlayed (session : GenWords) (answer : Put) (old new : Around) : Type 0 where
  pub history : List Entry
  pub parting : List Entry
  pub moves : moves_of history ≡ generated session
  pub leave : moves_of parting ≡ goings session.clients
  pub written : Puts answer old.outlet new.outlet (summary_of session.clients history)
  pub counted : PutIsCounted answer old.outlet new.outlet
  pub asked : AllAsked (history ++ parting)
  pub honest : IsHonest (answers_in (history ++ parting)) (asked_in (history ++ parting)) old.outside new.outside
  pub unread : new.inlet ≡ old.inlet

-- Memory was wanting: the entries are a front of the moves, and nothing was written. The outside was asked for what they say, and
-- was honest, as far as to the step that was lost.
pub record GenLost (session : GenWords) (old new : Around) : Type 0 where
  pub history : List Entry
  pub moves : Begins (generated_whole session) (moves_of history)
  pub asked : AllAsked history
  pub honest : WasHonestBefore history old.outside new.outside
  pub unwritten : new.outlet ≡ old.outlet
  pub unread : new.inlet ≡ old.inlet

-- what each status says of a generated session; it has no other one
abbrev pub GenAnswers : GenWords → Status → Around → Around → Type 0
GenAnswers session Done old new = GenPlayed session put.Done old new
GenAnswers session WriteFault old new = GenPlayed session put.Failed old new
GenAnswers session NoMemory old new = GenLost session old new
GenAnswers session _ old new = ⊥

-- whether the program may be called by these words: those of a generated session, or those for a client
abbrev pub is_call : List (List ℕ) → Bool
is_call words = is_some (gen_words words) || is_client_call words

-- what each status says, by what the words of the program name
abbrev pub CallAnswers : Option GenWords → List (List ℕ) → Status → Around → Around → Type 0
CallAnswers (Some session) words status old new = GenAnswers session status old new
CallAnswers None words status old new = RunAnswers (keys_at_start words) status old new
