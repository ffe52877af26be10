-- Worked examples of the commands, which hold by computation.
use Rattle.std.specs.Prelude.{◌≡◌, [], ◌∷◌, codes, Ok, Err, Some, None}
use Rattle.kak_words.specs.declared.parts.Piece.TheVariants.{Plain}
use Rattle.kak_world.specs.declared.ask.EditError.TheVariants.{Command}
use Rattle.kak_world.specs.declared.command_error.CommandError.TheVariants.{Unclosed}
use Rattle.command_set.specs.Reading.{commands_told}

pub record Examples : Type 0 where
  pub nothing_is_no_command : commands_told [] ≡ Ok []
  pub unclosed : commands_told (codes "echo %{a") ≡ Err (Command (Unclosed 5))
