-- What the errors say.
use Rattle.std.specs.Prelude.{◌≡◌, Result, Err}
use Rattle.command_forms.specs.declared.error.OrderError.{OrderError}
use Rattle.command_forms.specs.declared.error.OrderError.TheVariants as error

-- an error is the one that is due; memory may run out at any time
abbrev pub IsDue : {A : Type 0} → OrderError → Result A OrderError → Type 0
IsDue error.NoMemory due = Unit {0}
IsDue error.WrongArgumentCount due = due ≡ Err error.WrongArgumentCount
IsDue (error.UnknownSwitch word) due = due ≡ Err (error.UnknownSwitch word)
IsDue error.BadValue due = due ≡ Err error.BadValue
IsDue (error.NoSuchHighlighter word) due = due ≡ Err (error.NoSuchHighlighter word)
IsDue (error.BadSelection word) due = due ≡ Err (error.BadSelection word)
