-- What one connection is due, and what it is sent, phase by phase.
use Rattle.std.specs.Prelude.{ℕ, if◌then◌else◌, nat_lt, List, [], ◌∷◌, ◌++◌, length, map, take, drop, flat_map}
use Rattle.session_turns.specs.Histories.{Answer, bytes_of, is_leaving}

-- A turn of a connection that is open: it sends a line, or it is drawn without having asked.
pub data Turn : Type 0 where
  Line : (bytes : List ℕ) → Turn
  Idle : Turn

-- A phase of a connection: its opening, which comes first and once, or one of its turns.
pub data Phase : Type 0 where
  Opening : Phase
  During : (turn : Turn) → Phase

-- the phases that some turns are
abbrev pub later : List Turn → List Phase
later turns = map (λ turn. During turn) turns

-- the phases of a connection that takes some turns
abbrev pub phases : List Turn → List Phase
phases turns = Opening ∷ later turns

-- the turns that some lines are
abbrev pub turns_of : List (List ℕ) → List Turn
turns_of lines = map (λ line. Line line) lines

-- the words of a protocol over the events E
pub record Protocol (E : Type 0) : Type 0 where
  -- what a connection plays when it opens
  pub opening : List E
  -- what a line plays: nothing where it is refused
  pub asks : List ℕ → List E
  -- the bytes that refuse a line: nothing where it isn't refused
  pub refuses : List ℕ → List ℕ
  -- what a drawing plays that nobody asked for
  pub idles : E
  -- what a connection plays at its end
  pub leaves : E

-- the events of a phase
abbrev pub plays : {E : Type 0} → Protocol E → Phase → List E
plays protocol Opening = protocol.opening
plays protocol (During (Line bytes)) = protocol.asks bytes
plays protocol (During Idle) = protocol.idles ∷ []

-- what is sent at the end of a phase, beside the answers of its events
abbrev pub says : {E : Type 0} → Protocol E → Phase → List ℕ
says protocol Opening = []
says protocol (During (Line bytes)) = protocol.refuses bytes
says protocol (During Idle) = []

-- how many events a phase has
abbrev pub phase_size : {E : Type 0} → Protocol E → Phase → ℕ
phase_size protocol phase = length (plays protocol phase)

-- the phases that are played, where `got` are the answers: up to and with the one in which the client may leave
abbrev pub played : {E : Type 0} → Protocol E → List Phase → List (Answer E) → List Phase
played protocol [] got = []
played protocol (phase ∷ later) got =
    phase ∷ (if is_leaving (take (phase_size protocol phase) got)
    then []
    else played protocol later (drop (phase_size protocol phase) got))

-- the events that phases owe the history
abbrev pub due : {E : Type 0} → Protocol E → List Phase → List (Answer E) → List E
due protocol all got = flat_map (plays protocol) (played protocol all got)

-- what is sent over phases that are all played: from the first one on that isn't answered whole, nothing more
abbrev pub all_sent : {E : Type 0} → Protocol E → List Phase → List (Answer E) → List ℕ
all_sent protocol [] got = []
all_sent protocol (phase ∷ later) got =
    if nat_lt (length got) (phase_size protocol phase)
    then []
    else (bytes_of (take (phase_size protocol phase) got) ++ says protocol phase)
    ++ all_sent protocol later (drop (phase_size protocol phase) got)

-- what is sent over phases
abbrev pub sent : {E : Type 0} → Protocol E → List Phase → List (Answer E) → List ℕ
sent protocol all got = all_sent protocol (played protocol all got) got

-- the answers to the events of phases that were all played
abbrev pub answers_to : {E : Type 0} → Protocol E → List Phase → List (Answer E) → List (Answer E)
answers_to protocol all got = take (length (flat_map (plays protocol) all)) got

-- the lines that were sent in some turns
abbrev pub lines_among : List Turn → List (List ℕ)
lines_among [] = []
lines_among ((Line bytes) ∷ turns) = bytes ∷ lines_among turns
lines_among (Idle ∷ turns) = lines_among turns
