-- How a text is read as commands.
use Rattle.std.specs.Prelude.{ℕ, List, Ok, Err}
use Rattle.std.specs.declared.result.Result.{Result}
use Rattle.kak_words.specs.declared.parts.Command.{Command}
use Rattle.kak_words.specs.Reading.{commands_of as commands_read}
use Rattle.kak_world.specs.declared.ask.EditError.{EditError}
use Rattle.kak_world.specs.declared.ask.EditError.TheVariants.{Command as OfCommand}
use Rattle.kak_world.specs.declared.command_error.CommandError.TheVariants.{Unclosed}

-- the commands that were read, or at which character a quote or a bracket opens that isn't closed
abbrev pub told_reading : Result (List Command) ℕ → Result (List Command) EditError
told_reading (Ok commands) = Ok commands
told_reading (Err at) = Err (OfCommand (Unclosed at))

-- the commands of a text
abbrev pub commands_told : List ℕ → Result (List Command) EditError
commands_told text = told_reading (commands_read text)
