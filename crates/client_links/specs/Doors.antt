-- What comes in at an acceptor, and when it may fail.
use Rattle.std.specs.Prelude.{◌≡◌, ℕ, ◌+◌, List, [], ◌∷◌, ◌++◌, IsSome, IfSome, None, Some}
use Rattle.std.specs.declared.option.Option.{Option}
use Rattle.kak_ports.specs.Ports.{Rose}
use Rattle.client_links.specs.Wires.{Wire}
use Rattle.client_links.specs.declared.acceptor.Bound.{Bound}
use Rattle.client_links.specs.declared.acceptor.Bound.TheVariants.{Up, Failed as BindFailed}
use Rattle.client_links.specs.declared.acceptor.Next.{Next}
use Rattle.client_links.specs.declared.acceptor.Next.TheVariants.{Came, Idle, Failed as NextFailed}

-- What an acceptor is seen as.
pub record Door : Type 0 where
  -- the name of the session for which it listens, where it listens
  pub listens : Option (List ℕ)
  -- how many links came so far, where this is told
  pub came : Option ℕ
  -- the links that will still come, as they are before anything is received or sent, where this is told
  pub to_come : Option (List Wire)
  -- how often a bind or a next failed
  pub faults : ℕ

-- the same session is listened for, and no link came
abbrev pub NoneCame : Door → Door → Type 0
NoneCame old new = (new.listens ≡ old.listens) × (new.came ≡ old.came)

-- a session is listened for from now on, or nothing has changed
abbrev pub Binds : Bound → Door → Door → List ℕ → Type 0
Binds Up old new session = (new.listens ≡ Some session) × (new.came ≡ old.came)
Binds BindFailed old new session = NoneCame old new

-- the count of faults rises where a bind fails, and only there
abbrev pub BindIsCounted : Bound → Door → Door → Type 0
BindIsCounted BindFailed old new = Rose old.faults new.faults
BindIsCounted Up old new = new.faults ≡ old.faults

-- a count, where it is told, so many later
abbrev pub counted_on : Option ℕ → ℕ → Option ℕ
counted_on None more = None
counted_on (Some n) more = Some (n + more)

-- a link came, for the session that is listened for, or none did
abbrev pub Comes : {L : Type 0} → Next L → Door → Door → Type 0
Comes (Came link) old new = IsSome old.listens × (new.listens ≡ old.listens) × (new.came ≡ counted_on old.came 1)
Comes Idle old new = NoneCame old new
Comes NextFailed old new = NoneCame old new

-- a link is the first of those that were to come, and the others still are, where these are told
abbrev pub IsNextOf : Wire → Option (List Wire) → Option (List Wire) → Type 0
IsNextOf link None None = Unit {0}
IsNextOf link (Some links) (Some rest) = links ≡ link ∷ rest
IsNextOf link before now = ⊥

-- what was to come, where these links came first, and what still is to come is told
abbrev pub led_by : List Wire → Option (List Wire) → Option (List Wire)
led_by links None = None
led_by links (Some rest) = Some (links ++ rest)

-- no link is left that is to come, where these are told
abbrev pub NoneIsToCome : Door → Type 0
NoneIsToCome door = IfSome door.to_come (λ links. links ≡ [])

-- The first of the links that were to come is the one that came. None has come yet only where none is left, or where no
-- session is listened for.
abbrev pub ComesInOrder : {L : Type 0} → (L → Wire) → Next L → Door → Door → Type 0
ComesInOrder wire (Came link) old new = IsNextOf (wire link) old.to_come new.to_come
ComesInOrder wire Idle old new = (IsSome old.listens → NoneIsToCome old) × (new.to_come ≡ old.to_come)
ComesInOrder wire NextFailed old new = new.to_come ≡ old.to_come

-- what holds of the link that came
abbrev pub IfCame : {L : Type 0} → Next L → (L → Type 0) → Type 0
IfCame (Came link) P = P link
IfCame Idle P = Unit {0}
IfCame NextFailed P = Unit {0}

-- the count of faults rises where accepting fails, and only there
abbrev pub NextIsCounted : {L : Type 0} → Next L → Door → Door → Type 0
NextIsCounted NextFailed old new = Rose old.faults new.faults
NextIsCounted (Came link) old new = new.faults ≡ old.faults
NextIsCounted Idle old new = new.faults ≡ old.faults
