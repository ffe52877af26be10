-- Keys that are asked for: those of a text, and those of a macro.
use Rattle.std.specs.Prelude.{◌≡◌, ℕ, zero, suc, true, List, [], slice_index_or, IfSome, None, Some, Ok, Err}
use Rattle.std.specs.declared.option.Option.{Option}
use Rattle.std.specs.declared.result.Result.{Result}
use Rattle.std.specs.Str.{chars}
use Rattle.key_names.specs.declared.key.Key.{Key}
use Rattle.key_names.specs.Reading.{read_text}
use Rattle.kak_world.specs.declared.ask.Ask.TheVariants.{Play}
use Rattle.kak_world.specs.declared.ask.EditError.{EditError}
use Rattle.kak_world.specs.declared.ask.EditError.TheVariants.{NoSuchRegister, Command as OfCommand}
use Rattle.kak_world.specs.declared.command_error.CommandError.TheVariants.{BadKey}
use Rattle.kak_world.specs.declared.playing.Macro.{Macro}
use Rattle.kak_world.specs.declared.playing.PlayKeys.{PlayKeys}
use Rattle.kak_world.specs.Flat.{Flat}
use Rattle.kak_world.specs.Rows.{RowEnd, Asks, fails, row_of}
use Rattle.key_rows.specs.Reading.{strings_read}

-- what code answered that asks for keys, or refuses, over a world that it leaves, is what a row gives, unless memory was wanting
abbrev pub GivesPlay : Result PlayKeys EditError → Flat → RowEnd → Type 0
GivesPlay (Ok play) flat end = end ≡ record { world = flat; row = Asks (Play play) }
GivesPlay (Err error) flat end = IfSome (row_of error) (λ row. end ≡ record { world = flat; row = row })

-- keys are asked for, which may stand for others and whose hooks are run, and a macro behind them; or it is told at which character a
-- text is no keys
abbrev pub keys_asked : Result (List Key) ℕ → Option Macro → Flat → RowEnd
keys_asked (Ok keys) again flat = record { world = flat; row = Asks (Play (record { keys = keys; hooks = true; maps = true; again = again })) }
keys_asked (Err at) again flat = fails (OfCommand (BadKey at)) flat

-- the keys of a text are asked for
abbrev pub text_played : List ℕ → Option Macro → Flat → RowEnd
text_played text again flat = keys_asked (read_text text) again flat

-- a macro that is run so often more, where that is any more
abbrev pub run_further : ℕ → ℕ → Option Macro
run_further register zero = None
run_further register (suc further) = Some (record { register = register; further = further })

-- the first string of a register is run as keys; without one no key is
abbrev pub strings_played : Option (List (List ℕ)) → Macro → Flat → RowEnd
strings_played None again flat = fails (NoSuchRegister again.register) flat
strings_played (Some strings) again flat = text_played (chars (slice_index_or strings 0 [])) (run_further again.register again.further) flat

-- the row of a macro
unfoldable pub row_macro : Macro → ℕ → Flat → RowEnd
row_macro again who flat = strings_played (strings_read again.register who flat) again flat
