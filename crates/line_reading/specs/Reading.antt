-- What is seen of a reader of lines, and what the reading of a line does.
use Rattle.std.specs.Prelude.{◌≡◌, ℕ, ◌+◌, ◌<◌, ◌≤◌, ◌⊎◌, List, [], ◌∷◌, ◌++◌, length, Ok, Err, IfSome}
use Rattle.std.specs.declared.result.Result.{Result}
use Rattle.std.specs.Io.KnownBytes.{Consumes}
use Rattle.kak_ports.specs.Ports.{Inlet, Rose}
use Rattle.session_turns.specs.Lines.{HasNoNewline}
use Rattle.line_reading.specs.declared.limits.TheConstants.{MAX_INPUT, MAX_PIECE}
use Rattle.line_reading.specs.declared.reader.NextLine.{NextLine}
use Rattle.line_reading.specs.declared.reader.NextLine.TheVariants.{Line, Last, Ended, ReadFault, Full}

-- What a reader is seen as.
pub record Reading : Type 0 where
  -- how many bytes were taken
  pub taken : ℕ
  -- the bytes that were taken and belong to no line that was given out
  pub pending : List ℕ
  -- the line that was given out last, without its newline
  pub line : List ℕ

-- Of the bytes only the last piece may have a newline, where none is pending: nothing was taken behind the piece that
-- has the first one. A piece is no longer than what may be taken at once, and than one take gives.
pub record IsLastPiece (pending : List ℕ) (left : Inlet) (bytes : List ℕ) : Type 0 where
  pub before : List ℕ
  pub piece : List ℕ
  pub cut : bytes ≡ before ++ piece
  pub none : HasNoNewline (pending ++ before)
  pub one : length piece ≤ MAX_PIECE
  pub most : length piece ≤ left.most

-- no more was taken than a line needs: nothing, or nothing behind the piece that has its newline
abbrev pub IsNeeded : List ℕ → Inlet → List ℕ → Type 0
IsNeeded pending left bytes = (bytes ≡ []) ⊎ IsLastPiece pending left bytes

-- the bytes are all that the input had, where its bytes are told: it has ended
abbrev pub IsAll : Inlet → List ℕ → Type 0
IsAll left bytes = IfSome left.left (λ input. input ≡ bytes)

-- A line is what stood before the first newline, and what stood behind it is pending.
pub record GivesLine (old new : Reading) (bytes : List ℕ) : Type 0 where
  pub split : old.pending ++ bytes ≡ new.line ++ 10 ∷ new.pending
  pub first : HasNoNewline new.line

-- The input has ended, and what was left is the last line.
pub record GivesLast (old new : Reading) (left : Inlet) (bytes : List ℕ) : Type 0 where
  pub ended : IsAll left bytes
  pub all : old.pending ++ bytes ≡ new.line
  pub none : HasNoNewline new.line
  pub some : 0 < length new.line
  pub nothing : new.pending ≡ []

-- The input has ended, and nothing was left.
pub record HasEnded (old new : Reading) (left : Inlet) (bytes : List ℕ) : Type 0 where
  pub ended : IsAll left bytes
  pub all : old.pending ++ bytes ≡ []
  pub nothing : new.pending ≡ []

-- What has come is no whole line, and is kept.
pub record KeepsPart (old new : Reading) (bytes : List ℕ) : Type 0 where
  pub none : HasNoNewline (old.pending ++ bytes)
  pub kept : new.pending ≡ old.pending ++ bytes

-- what each answer says: at the limit all that may be taken was taken; without memory nothing is lost
abbrev pub GivesNext : {E : Type 0} → Result NextLine E → Reading → Reading → Inlet → List ℕ → Type 0
GivesNext (Ok Line) old new left bytes = GivesLine old new bytes
GivesNext (Ok Last) old new left bytes = GivesLast old new left bytes
GivesNext (Ok Ended) old new left bytes = HasEnded old new left bytes
GivesNext (Ok ReadFault) old new left bytes = KeepsPart old new bytes
GivesNext (Ok Full) old new left bytes = KeepsPart old new bytes × (new.taken ≡ MAX_INPUT)
GivesNext (Err _) old new left bytes = new.pending ≡ old.pending ++ bytes

-- These bytes were taken, and are counted: no more than the line needs, and no more than may be taken at all.
pub record ReadsCounted {E : Type 0} (answer : Result NextLine E) (old new : Reading) (left rest : Inlet) : Type 0 where
  pub bytes : List ℕ
  pub takes : Consumes left.left rest.left bytes
  pub counted : new.taken ≡ old.taken + length bytes
  pub few : new.taken ≤ MAX_INPUT
  pub needed : IsNeeded old.pending left bytes
  pub gives : GivesNext answer old new left bytes

-- a fault is told where one was met, and only there
abbrev pub FaultIsTold : {E : Type 0} → Result NextLine E → Inlet → Inlet → Type 0
FaultIsTold (Ok ReadFault) left rest = Rose left.faults rest.faults
FaultIsTold _ left rest = rest.faults ≡ left.faults
