-- What commands have run: keys, and texts as commands.
use Rattle.std.specs.Prelude.{ℕ, if◌then◌else◌, List, length, None, Some}
use Rattle.std.specs.declared.option.Option.{Option}
use Rattle.std.specs.Str.{chars}
use Rattle.key_names.specs.Reading.{read_text}
use Rattle.scope_tables.specs.declared.definitions.Definition.{Definition}
use Rattle.scope_tables.specs.Definitions.{is_allowed}
use Rattle.command_forms.specs.declared.runs.PlayOrder.{PlayOrder}
use Rattle.command_forms.specs.declared.runs.TryOrder.{TryOrder}
use Rattle.kak_world.specs.declared.ask.Ask.TheVariants.{Play, Eval, Try, Call}
use Rattle.kak_world.specs.declared.command_error.CommandError.TheVariants.{NoSuchCommand, WrongArgumentCount}
use Rattle.kak_world.specs.Flat.{Flat}
use Rattle.kak_world.specs.Rows.{RowEnd}
use Rattle.command_set.specs.Buffers.{asks, refuses}
use Rattle.command_set.specs.Painting.{told_row}
use Rattle.command_set.specs.Tables.{keys_told}

-- keys are to be run, if they can be read
abbrev pub play_row : PlayOrder → Flat → RowEnd
play_row p flat =
    told_row (λ keys. asks (Play (record { keys = keys; hooks = p.hooks; maps = p.maps; again = None })) flat) flat (keys_told (read_text (chars p.keys)))

-- a text is to be run as commands
abbrev pub eval_row : List ℕ → Flat → RowEnd
eval_row text flat = asks (Eval (chars text)) flat

-- and another one where that fails
abbrev pub try_row : TryOrder → Flat → RowEnd
try_row t flat = asks (Try (record { first = chars t.first; catching = chars t.catching })) flat

-- what a word was defined as is to be run with the words behind it, if there may be so many
abbrev pub call_row : Option Definition → List ℕ → List (List ℕ) → Flat → RowEnd
call_row None word words flat = refuses (NoSuchCommand word) flat
call_row (Some d) word words flat =
    if is_allowed (length words) d.allowed then asks (Call (record { text = chars d.commands; arguments = words })) flat
    else refuses WrongArgumentCount flat
