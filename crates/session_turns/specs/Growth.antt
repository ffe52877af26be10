-- How far some phases have got, with the answers `got` and the bytes `out`, whatever phases come behind.
use Rattle.std.specs.Prelude.{◌≡◌, ℕ, true, false, List, ◌∷◌, ◌++◌, flat_map}
use Rattle.session_turns.specs.Histories.{Answer, Rules, events_of, bytes_of, is_leaving, answers_behind, own}
use Rattle.session_turns.specs.Turns.{Phase, Protocol, plays, says, due, all_sent, sent}

-- a list begins with another
abbrev pub Begins : {A : Type 0} → List A → List A → Type 0
Begins {A = A} whole front = (rest : List A) × (whole ≡ front ++ rest)

-- a list begins with another, and goes on behind it
abbrev pub GoesOn : {A : Type 0} → List A → List A → Type 0
GoesOn {A = A} whole front = (next : A) × (rest : List A) × (whole ≡ front ++ next ∷ rest)

-- each phase was played and answered whole, and the client may not leave yet
pub record IsWhole {E : Type 0} (protocol : Protocol E) (all : List Phase) (got : List (Answer E)) (out : List ℕ) : Type 0 where
  pub events : events_of got ≡ flat_map (plays protocol) all
  pub stays : is_leaving got ≡ false
  pub bytes : out ≡ all_sent protocol all got

-- the client may leave, and phases behind are no longer played
pub record IsOver {E : Type 0} (protocol : Protocol E) (all : List Phase) (got : List (Answer E)) (out : List ℕ) : Type 0 where
  pub leaves : is_leaving got ≡ true
  pub events : (more : List Phase) → due protocol (all ++ more) got ≡ events_of got
  pub bytes : (more : List Phase) → sent protocol (all ++ more) got ≡ out

-- an event that is due was refused: the history has a beginning of what is due and not all, and for that all is sent
pub record IsShort {E : Type 0} (protocol : Protocol E) (all : List Phase) (got : List (Answer E)) (out : List ℕ) : Type 0 where
  pub events : (more : List Phase) → GoesOn (due protocol (all ++ more) got) (events_of got)
  pub bytes : (more : List Phase) → sent protocol (all ++ more) got ≡ out

-- a write failed in a phase: the phases before it are whole, it was answered whole, and a beginning of what it sends
-- was sent
pub record IsUnsent {E : Type 0} (protocol : Protocol E) (all : List Phase) (got : List (Answer E)) (out : List ℕ) : Type 0 where
  pub before : List Phase
  pub at : Phase
  pub behind : List Phase
  pub split : all ≡ before ++ at ∷ behind
  pub early : List (Answer E)
  pub late : List (Answer E)
  pub answers : got ≡ early ++ late
  pub first : List ℕ
  pub front : List ℕ
  pub bytes : out ≡ first ++ front
  pub whole : IsWhole protocol before early first
  pub events : events_of late ≡ plays protocol at
  pub begins : Begins (bytes_of late ++ says protocol at) front

-- something was lost: the history has only a beginning of what is due, and only a beginning of what is to be sent was
-- sent
pub record IsLost {E : Type 0} (protocol : Protocol E) (all : List Phase) (got : List (Answer E)) (out : List ℕ) : Type 0 where
  pub events : (more : List Phase) → Begins (due protocol (all ++ more) got) (events_of got)
  pub bytes : (more : List Phase) → Begins (sent protocol (all ++ more) got) out

-- How the playing of some phases ended.
pub data How : Type 0 where
  Whole : How
  Over : How
  Short : How
  Unsent : How
  Lost : How

-- the phases got so far as was told
abbrev pub Fits : {E : Type 0} → Protocol E → How → List Phase → List (Answer E) → List ℕ → Type 0
Fits protocol Whole all got out = IsWhole protocol all got out
Fits protocol Over all got out = IsOver protocol all got out
Fits protocol Short all got out = IsShort protocol all got out
Fits protocol Unsent all got out = IsUnsent protocol all got out
Fits protocol Lost all got out = IsLost protocol all got out

-- a history grew, and the client's part of what was added has these answers
pub record Adds {N E : Type 0} (rules : Rules N E) (who : ℕ) (old new : List N) (got : List (Answer E)) : Type 0 where
  pub more : List N
  pub grows : new ≡ old ++ more
  pub answered : answers_behind rules who old more ≡ got
  pub events : own rules who more ≡ events_of got
