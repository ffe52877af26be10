-- What is held while a generated session is played.
use Rattle.std.specs.Prelude.{◌≡◌, ◌<◌, ℕ, true, List, ◌++◌}
use Rattle.session_turns.specs.Growth.{Begins}
use Rattle.kak_ports.specs.Ports.{Outlet, Puts, PutIsCounted}
use Rattle.kak_ports.specs.declared.sink.Put.TheVariants as put
use Rattle.program_words.specs.declared.generated.GenWords.{GenWords}
use Rattle.session_events.specs.declared.event.Entry.{Entry}
use Rattle.session_events.specs.Legal.{Away, is_here, presence_from}
use Rattle.kak_engine.specs.Honesty.{Outside}
use Rattle.kak_engine.specs.Held.{HeldEngine}
use Rattle.kak_engine.specs.Seating.{WasHonest}
use Rattle.kak_app.specs.declared.program.Status.{Status}
use Rattle.kak_app.specs.declared.program.Status.TheVariants.{Done, WriteFault}
use Rattle.kak_app.specs.Generated.{Move, moves_of, drawn_moves, generated, goings, summary_of}

-- Entries of these moves were added to a history, one for each.
pub record Adds (moves : List Move) (old new : List Entry) : Type 0 where
  pub entries : List Entry
  pub keeps : new ≡ old ++ entries
  pub are : moves_of entries ≡ moves

-- The same of some of the moves, from the first on.
pub record AddsSome (moves : List Move) (old new : List Entry) : Type 0 where
  pub front : List Move
  pub begins : Begins moves front
  pub adds : Adds front old new

-- Some of the strikes that are drawn were added, and those that are left are drawn from this state.
pub record AddsDrawn (clients keys seed left state : ℕ) (old new : List Entry) : Type 0 where
  pub front : List Move
  pub rest : drawn_moves clients keys seed ≡ front ++ drawn_moves clients left state
  pub adds : Adds front old new

-- the clients with numbers below this one are here behind a history
abbrev pub AreHere : ℕ → List Entry → Type 0
AreHere clients history = (k : ℕ) → k < clients → is_here (presence_from k Away history) ≡ true

-- whoever was here is here still
abbrev pub AllStay : List Entry → List Entry → Type 0
AllStay old new = (k : ℕ) → is_here (presence_from k Away old) ≡ true → is_here (presence_from k Away new) ≡ true

-- where the outside was honest since some moment, it was so still
abbrev pub StaysHonest : HeldEngine → HeldEngine → Type 0
StaysHonest old new = (first : Outside) → WasHonest old first → WasHonest new first

-- A session was played to its end, behind an empty history, and this is its summary.
pub record IsSummed (session : GenWords) (text : List ℕ) (new : List Entry) : Type 0 where
  pub history : List Entry
  pub parting : List Entry
  pub is : new ≡ history ++ parting
  pub moves : moves_of history ≡ generated session
  pub leave : moves_of parting ≡ goings session.clients
  pub text_is : text ≡ summary_of session.clients history

-- a text was put, by the status that the run has then
abbrev pub Writes : List ℕ → Status → Outlet → Outlet → Type 0
Writes text Done old new = Puts put.Done old new text × PutIsCounted put.Done old new
Writes text WriteFault old new = Puts put.Failed old new text × PutIsCounted put.Failed old new
Writes text _ old new = ⊥
