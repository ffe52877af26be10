-- What a connection's history and bytes are, at each of its ends.
use Rattle.std.specs.Prelude.{◌≡◌, ℕ, true, false, ◌⊎◌, List, [], ◌∷◌, ◌++◌, flat_map}
use Rattle.session_turns.specs.Lines.{whole_lines, lines_of_input}
use Rattle.session_turns.specs.Histories.{Rules, own, answers, is_leaving}
use Rattle.session_turns.specs.Turns.{Turn, Phase, Protocol, phases, plays, due, all_sent, sent, answers_to, lines_among}
use Rattle.session_turns.specs.Growth.{Begins, GoesOn}

-- How a connection ended.
pub data End : Type 0 where
  -- the client was let go
  Left : End
  -- the input ended
  Closed : End
  -- the input failed, or was more than is taken
  Cut : End
  -- an event was refused, since the history or the session is full
  Refused : End
  -- a write failed
  Unwritten : End
  -- memory was wanting, or the session was broken before
  Lost : End

-- the events that a connection owes, its leaving aside
abbrev pub Owed : {N E : Type 0} → Protocol E → Rules N E → ℕ → List N → List Turn → List E
Owed protocol rules who history turns = due protocol (phases turns) (answers rules who history)

-- the events that a connection owes: those of its opening and of its turns, and its leaving
abbrev pub Due : {N E : Type 0} → Protocol E → Rules N E → ℕ → List N → List Turn → List E
Due protocol rules who history turns = Owed protocol rules who history turns ++ protocol.leaves ∷ []

-- the bytes that a connection is to be sent
abbrev pub Sent : {N E : Type 0} → Protocol E → Rules N E → ℕ → List N → List Turn → List ℕ
Sent protocol rules who history turns = sent protocol (phases turns) (answers rules who history)

-- the own events are all that are due
abbrev pub HasAll : {N E : Type 0} → Protocol E → Rules N E → ℕ → List N → List Turn → Type 0
HasAll protocol rules who history turns = own rules who history ≡ Due protocol rules who history turns

-- the own events are those that are due up to one that isn't there, and then the leaving
pub record HasFrontAndLeave {N E : Type 0} (protocol : Protocol E) (rules : Rules N E) (who : ℕ) (history : List N) (turns : List Turn) : Type 0 where
  pub front : List E
  pub goes_on : GoesOn (Owed protocol rules who history turns) front
  pub stands : own rules who history ≡ front ++ protocol.leaves ∷ []

-- A write failed in a phase: the own events are those of the phases up to and with it, none of the phases before it let
-- the client go, all that these send was sent, and then a beginning of what it sends. The client's leaving isn't there.
pub record HasUnsent {N E : Type 0} (protocol : Protocol E) (rules : Rules N E) (who : ℕ) (history : List N) (turns : List Turn) (told : List ℕ) : Type 0 where
  pub before : List Phase
  pub at : Phase
  pub behind : List Phase
  pub split : phases turns ≡ before ++ at ∷ behind
  pub stands : own rules who history ≡ flat_map (plays protocol) (before ++ at ∷ [])
  pub stays : is_leaving (answers_to protocol before (answers rules who history)) ≡ false
  pub whole : Begins told (all_sent protocol before (answers rules who history))
  pub begins : Begins (all_sent protocol (before ++ at ∷ []) (answers rules who history)) told

-- the own events are a beginning of what is due, and a leaving may follow
pub record HasFront {N E : Type 0} (protocol : Protocol E) (rules : Rules N E) (who : ℕ) (history : List N) (turns : List Turn) : Type 0 where
  pub front : List E
  pub begins : Begins (Due protocol rules who history turns) front
  pub stands : (own rules who history ≡ front) ⊎ (own rules who history ≡ front ++ protocol.leaves ∷ [])

-- what stands in the history and what was sent, at each end
abbrev pub Stands : {N E : Type 0} → Protocol E → Rules N E → End → ℕ → List N → List Turn → List ℕ → Type 0
Stands protocol rules Left who history turns told =
    HasAll protocol rules who history turns × (told ≡ Sent protocol rules who history turns) × (is_leaving (answers rules who history) ≡ true)
Stands protocol rules Closed who history turns told =
    HasAll protocol rules who history turns × (told ≡ Sent protocol rules who history turns) × (is_leaving (answers rules who history) ≡ false)
Stands protocol rules Cut who history turns told =
    HasAll protocol rules who history turns × (told ≡ Sent protocol rules who history turns) × (is_leaving (answers rules who history) ≡ false)
Stands protocol rules Refused who history turns told =
    (HasFrontAndLeave protocol rules who history turns ⊎ (own rules who history ≡ [])) × (told ≡ Sent protocol rules who history turns)
Stands protocol rules Unwritten who history turns told = HasUnsent protocol rules who history turns told
Stands protocol rules Lost who history turns told =
    HasFront protocol rules who history turns × Begins (Sent protocol rules who history turns) told

-- the lines are those that the bytes complete; a last part is one too only where the input has ended
abbrev pub AreLines : Type 0 → List ℕ → List (List ℕ) → Type 0
AreLines ended input lines = (lines ≡ whole_lines [] input) ⊎ (ended × (lines ≡ lines_of_input input))

-- the lines that were read of an input, at each end
abbrev pub LinesRead : End → Type 0 → List ℕ → List (List ℕ) → Type 0
LinesRead Closed ended input lines = ended × (lines ≡ lines_of_input input)
LinesRead Cut ended input lines = lines ≡ whole_lines [] input
LinesRead _ ended input lines = AreLines ended input lines

-- The headline: of the turns of a connection the lines are those that were read of its input, of which `ended` says that
-- it has ended, and the client's part of the history and the bytes that it was sent are those of these turns.
pub record IsServed {N E : Type 0} (protocol : Protocol E) (rules : Rules N E) (end : End) (who : ℕ) (history : List N) (turns : List Turn) (ended : Type 0) (input told : List ℕ) : Type 0 where
  pub lines : LinesRead end ended input (lines_among turns)
  pub stands : Stands protocol rules end who history turns told
