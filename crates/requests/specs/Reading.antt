-- What it is to read lines as requests.
use Rattle.std.specs.Prelude.{◌≡◌, ℕ, List, Result, Err}
use Rattle.drawings.specs.declared.refusal.Refusal.{Refusal}
use Rattle.requests.specs.declared.request.Request.{Request}
use Rattle.requests.specs.declared.request.LineError.{LineError}
use Rattle.requests.specs.declared.request.LineError.TheVariants.{Refused, NoMemory}

-- which request a line is, or why it is refused
abbrev pub Reads : Type 0
Reads = List ℕ → Result Request Refusal

-- what an error says of a line's reading
abbrev pub IsLineError : LineError → Result Request Refusal → Type 0
IsLineError (Refused refusal) reading = reading ≡ Err refusal
IsLineError NoMemory reading = Unit {0}
