-- What is done with the bytes of one take.
use Rattle.std.specs.Prelude.{◌≡◌, ℕ, ◌<◌, ◌≤◌, Bool, true, false, List, [], ◌∷◌, ◌++◌, length, Ok, Err}
use Rattle.std.specs.declared.result.Result.{Result}
use Rattle.std.specs.Io.KnownBytes.{Keeps, Consumes, IsAtEnd}
use Rattle.kak_ports.specs.Ports.{Inlet}
use Rattle.kak_ports.specs.declared.source.Took.{Took}
use Rattle.kak_ports.specs.declared.source.Took.TheVariants.{Got, End, Failed}
use Rattle.session_turns.specs.Lines.{HasNoNewline}

-- The piece is what a take gave: these are the next bytes of what was left, at least one, and no more than there was
-- room for and than one take gives.
pub record IsPieceTaken (count : ℕ) (old new : Inlet) (room : ℕ) (piece : List ℕ) : Type 0 where
  pub some : 0 < count
  pub size : length piece ≡ count
  pub inside : count ≤ room
  pub most : count ≤ old.most
  pub bytes : Consumes old.left new.left piece

-- a take filled the piece, or gave nothing
abbrev pub Fills : Took → Inlet → Inlet → ℕ → List ℕ → Type 0
Fills (Got count) old new room piece = IsPieceTaken count old new room piece
Fills End old new room piece = IsAtEnd old.left × Keeps old.left new.left × (piece ≡ [])
Fills Failed old new room piece = Keeps old.left new.left × (piece ≡ [])

-- Bytes were moved from a piece to the end of a line: those before the first newline, which is gone, or all where there
-- is none. Where memory is wanting, both stay.
abbrev pub Moves : {E : Type 0} → Result Bool E → List ℕ → List ℕ → List ℕ → List ℕ → Type 0
Moves (Ok true) line more piece rest = (line ++ piece ≡ more ++ 10 ∷ rest) × (HasNoNewline line → HasNoNewline more)
Moves (Ok false) line more piece rest = (more ≡ line ++ piece) × HasNoNewline piece × (rest ≡ [])
Moves (Err _) line more piece rest = (more ≡ line) × (rest ≡ piece)
