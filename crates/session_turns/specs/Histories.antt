-- One history of many clients' entries, and what of it concerns one client.
use Rattle.std.specs.Prelude.{ℕ, Bool, ◌||◌, false, if◌then◌else◌, ◌==◌, List, [], ◌∷◌, ◌++◌, map, flat_map}

-- what a history gave a client at an entry of its own: the event, the bytes to be sent, and whether it may leave
pub record Answer (E : Type 0) : Type 0 where
  pub event : E
  pub bytes : List ℕ
  pub leaving : Bool

-- what the entries of a history mean: N are the entries, E the events
pub record Rules (N E : Type 0) : Type 0 where
  -- whose an entry is, and what happened there
  pub maker : N → ℕ
  pub event : N → E
  -- what its maker is answered at an entry behind the entries before it: one answer, or none where the client leaves
  pub answer : List N → N → List (Answer E)

-- a client's own events, in order
abbrev pub own : {N E : Type 0} → Rules N E → ℕ → List N → List E
own rules who [] = []
own rules who (entry ∷ entries) =
    if rules.maker entry == who then rules.event entry ∷ own rules who entries else own rules who entries

-- what a client is answered at its own among some entries, behind the entries before them
abbrev pub answers_behind : {N E : Type 0} → Rules N E → ℕ → List N → List N → List (Answer E)
answers_behind rules who before [] = []
answers_behind rules who before (entry ∷ entries) =
    if rules.maker entry == who
    then rules.answer before entry ++ answers_behind rules who (before ++ entry ∷ []) entries
    else answers_behind rules who (before ++ entry ∷ []) entries

-- what a client is answered over a whole history
abbrev pub answers : {N E : Type 0} → Rules N E → ℕ → List N → List (Answer E)
answers rules who history = answers_behind rules who [] history

-- the events of answers
abbrev pub events_of : {E : Type 0} → List (Answer E) → List E
events_of got = map (λ answer. answer.event) got

-- the bytes of answers, one after another
abbrev pub bytes_of : {E : Type 0} → List (Answer E) → List ℕ
bytes_of got = flat_map (λ answer. answer.bytes) got

-- whether one of the answers lets the client leave
abbrev pub is_leaving : {E : Type 0} → List (Answer E) → Bool
is_leaving [] = false
is_leaving (answer ∷ got) = answer.leaving || is_leaving got
