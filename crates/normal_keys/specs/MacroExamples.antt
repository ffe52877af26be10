-- Worked examples of the keys that record and run macros, which hold by computation.
use Rattle.std.specs.Prelude.{◌≡◌, ℕ, true, false, None, Some, List, [], ◌∷◌, codes}
use Rattle.std.specs.declared.option.Option.{Option}
use Rattle.list_model.specs.Ranges.{only}
use Rattle.key_names.specs.declared.key.Key.{Key}
use Rattle.key_names.specs.declared.key.Base.TheVariants.{Char, Esc, Left}
use Rattle.kak_registers.specs.Contents.{strings_of}
use Rattle.kak_world.specs.declared.ask.Ask.TheVariants.{Play}
use Rattle.kak_world.specs.declared.ask.EditError.TheVariants.{ReadOnlyRegister, Command as OfCommand}
use Rattle.kak_world.specs.declared.command_error.CommandError.TheVariants.{BadKey}
use Rattle.kak_world.specs.declared.own.Recording.{Recording}
use Rattle.kak_world.specs.declared.playing.Macro.{Macro}
use Rattle.kak_world.specs.Flat.{Flat, registers_of, with_own}
use Rattle.kak_world.specs.Rows.{Row, Asks, Fails, error_text}
use Rattle.normal_keys.specs.Recording.{recording_of}
use Rattle.normal_keys.specs.Examples.{key, keys, client_on, after_keys, row_after, one}

-- client 0 on a text, with one selection
abbrev pub beginning : Flat
beginning = client_on (codes "ab\n") (one (only 0)) 100

-- what it records after keys
abbrev pub recorded_after : List Key → Option Recording
recorded_after ks = recording_of 0 (after_keys ks beginning)

-- a recording for a register, of which no key is heard yet
abbrev pub begun_for : ℕ → Option Recording
begun_for register = Some (record { register = register; struck = []; listens = false })

-- it records keys for register `a` (97)
abbrev pub recording_keys : List Key → Flat
recording_keys struck = with_own 0 (λ o. record o { recording = Some (record { register = 97; struck = struck; listens = true }) }) beginning

-- register `@` (64) holds strings
abbrev pub holding : List (List ℕ) → Flat
holding strings = record beginning { rest = record beginning.rest { registers = record { name = 64; values = strings } ∷ [] } }

-- that keys are asked for as a macro, and the one that is run behind them
abbrev pub playing : List Key → Option Macro → Row
playing ks again = Asks (Play (record { keys = ks; hooks = true; maps = true; again = again }))

-- recordings
pub record RecordingExamples : Type 0 where
  pub it_begins : recorded_after (keys (codes "Q")) ≡ begun_for 64
  pub for_the_chosen_register : recorded_after (keys (codes "\"aQ")) ≡ begun_for 97
  pub it_ends : recorded_after (keys (codes "QQ")) ≡ None
  pub count_does_not_matter : recorded_after (keys (codes "3Q")) ≡ begun_for 64
  pub escape_ends_it : recorded_after (key (Char 81) ∷ key Esc ∷ []) ≡ None
  pub escape_that_was_awaited_does_not : recorded_after (key (Char 81) ∷ key (Char 102) ∷ key Esc ∷ []) ≡ begun_for 64
  pub its_register_is_set : strings_of 97 (registers_of (after_keys (keys (codes "Q")) (recording_keys (key (Char 108) ∷ key Left ∷ [])))) ≡ codes "l<left>" ∷ []
  pub register_of_its_begin_is_meant : strings_of 97 (registers_of (after_keys (keys (codes "\"bQ")) (recording_keys (keys (codes "l"))))) ≡ codes "l" ∷ []
  pub read_only_register_is_refused_at_the_end : row_after (keys (codes "\"%Q")) (key (Char 81)) beginning ≡ Fails (error_text (ReadOnlyRegister 37))
  pub and_it_is_over : recorded_after (keys (codes "\"%QQ")) ≡ None

-- macros that are run
pub record PlayingExamples : Type 0 where
  pub q_asks_for_its_keys : row_after [] (key (Char 113)) (holding (codes "l<left>" ∷ [])) ≡ playing (key (Char 108) ∷ key Left ∷ []) None
  pub count_asks_more_often : row_after (keys (codes "3")) (key (Char 113)) (holding (codes "l" ∷ [])) ≡ playing (keys (codes "l")) (Some (record { register = 64; further = 1 }))
  pub first_string_is_meant : row_after [] (key (Char 113)) (holding (codes "l" ∷ codes "h" ∷ [])) ≡ playing (keys (codes "l")) None
  pub none_is_no_key : row_after [] (key (Char 113)) beginning ≡ playing [] None
  pub name_of_the_buffer_can_be_run : row_after (keys (codes "\"%")) (key (Char 113)) beginning ≡ playing (keys (codes "n")) None
  pub no_keys_are_refused : row_after [] (key (Char 113)) (holding (codes "l<" ∷ [])) ≡ Fails (error_text (OfCommand (BadKey 1)))

pub record MacroExamples : Type 0 where
  pub recordings : RecordingExamples
  pub plays : PlayingExamples
