-- Which errors say that a call would have had to wait.
use Rattle.std.specs.Prelude.{◌≡◌, ◌⊎◌}
use Rattle.std.specs.declared.io.ErrorKind.{ErrorKind}
use Rattle.std.specs.declared.io.ErrorKind.TheVariants.{WouldBlock, TimedOut, Interrupted}

-- an error of this kind says that the call would have had to wait for longer
abbrev pub IsPause : ErrorKind → Type 0
IsPause kind = (kind ≡ WouldBlock) ⊎ ((kind ≡ TimedOut) ⊎ (kind ≡ Interrupted))
