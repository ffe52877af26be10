-- What is heard and sent over a link, where it is told, and when the one or the other may fail.
use Rattle.std.specs.Prelude.{◌≡◌, ℕ, ◌-◌, ◌<◌, ◌≤◌, List, [], ◌∷◌, length, take, None, Some, IfSome}
use Rattle.std.specs.declared.option.Option.{Option}
use Rattle.std.specs.Io.KnownBytes.{Appends, Consumes, IsAtEnd}
use Rattle.kak_ports.specs.Ports.{Outlet, Rose}
use Rattle.client_links.specs.declared.link.Heard.{Heard}
use Rattle.client_links.specs.declared.link.Heard.TheVariants.{Got, End, Idle, Failed}

-- What a link is seen as.
pub record Wire : Type 0 where
  -- all bytes that were received so far, where they are told
  pub received : Option (List ℕ)
  -- the bytes that will still come, where they are told
  pub left : Option (List ℕ)
  -- how many more times at most nothing will have come though it was waited for, where this is told
  pub pauses : Option ℕ
  -- how often receiving failed
  pub read_faults : ℕ
  -- what was sent so far, where it is told, and how often sending failed
  pub outlet : Outlet

-- Bytes came: at least one, and at most as many as there was room for. They are the next of those that were to come,
-- and stand now behind all that was received.
pub record Gets (count : ℕ) (old new : Wire) (into : List ℕ) : Type 0 where
  pub some : 0 < count
  pub room : count ≤ length into
  pub received : Appends old.received new.received (take count into)
  pub left : Consumes old.left new.left (take count into)

-- nothing was received, and what will come is the same
abbrev pub HearsNothing : Wire → Wire → Type 0
HearsNothing old new = (new.received ≡ old.received) × (new.left ≡ old.left)

-- bytes are left, where they are told
abbrev pub IsNotAtEnd : Option (List ℕ) → Type 0
IsNotAtEnd None = Unit {0}
IsNotAtEnd (Some []) = ⊥
IsNotAtEnd (Some (b ∷ bytes)) = Unit {0}

-- More may come: a link that tells its pauses tells by them how often nothing comes, and any other one isn't at its end.
abbrev pub MayGoOn : (pauses : Option ℕ) → (left : Option (List ℕ)) → Type 0
MayGoOn (Some pauses) left = Unit {0}
MayGoOn None left = IsNotAtEnd left

-- The next bytes came, or none will come any more, or none have come yet and more may come, or receiving failed and took
-- none.
abbrev pub Hears : Heard → Wire → Wire → List ℕ → Type 0
Hears (Got count) old new into = Gets count old new into
Hears End old new into = IsAtEnd old.left × HearsNothing old new
Hears Idle old new into = MayGoOn old.pauses old.left × HearsNothing old new
Hears Failed old new into = HearsNothing old new

-- one of the pauses that are left is taken, where these are told
abbrev pub TakesPause : Option ℕ → Option ℕ → Type 0
TakesPause None now = now ≡ None
TakesPause (Some pauses) now = (0 < pauses) × (now ≡ Some (pauses - 1))

-- a wait in which nothing came takes a pause, and whatever else is heard takes none
abbrev pub HearingTakesPauses : Heard → Option ℕ → Option ℕ → Type 0
HearingTakesPauses Idle before now = TakesPause before now
HearingTakesPauses _ before now = now ≡ before

-- the count of faults rises where receiving fails, and only there
abbrev pub HearingIsCounted : Heard → Wire → Wire → Type 0
HearingIsCounted Failed old new = Rose old.read_faults new.read_faults
HearingIsCounted _ old new = new.read_faults ≡ old.read_faults

-- nothing was received and no receiving failed, and what will come is the same
abbrev pub IsSameHearing : Wire → Wire → Type 0
IsSameHearing old new = HearsNothing old new × (new.read_faults ≡ old.read_faults)

-- what isn't told stays untold
abbrev pub StaysUntold : Option (List ℕ) → Option (List ℕ) → Type 0
StaysUntold None new = new ≡ None
StaysUntold (Some bytes) new = Unit {0}

-- Nothing is told that wasn't told before; so what a link tells at its end it has told since it came.
pub record TellsNoMore (old new : Wire) : Type 0 where
  pub received : StaysUntold old.received new.received
  pub left : StaysUntold old.left new.left
  pub sent : StaysUntold old.outlet.told new.outlet.told

-- A link that has just come: nothing was received or sent, where this is told, and nothing has failed.
pub record IsFresh (link : Wire) : Type 0 where
  pub received : IfSome link.received (λ bytes. bytes ≡ [])
  pub sent : IfSome link.outlet.told (λ bytes. bytes ≡ [])
  pub read_faults : link.read_faults ≡ 0
  pub send_faults : link.outlet.faults ≡ 0
