-- What commands do to options.
use Rattle.std.specs.Prelude.{ℕ, Bool, is_some, if◌then◌else◌, List, [], ◌∷◌, ◌++◌, codes, None, Some, Ok, Err}
use Rattle.std.specs.declared.option.Option.{Option}
use Rattle.std.specs.declared.result.Result.{Result}
use Rattle.std.specs.Str.{bytes_eq}
use Rattle.scope_options.specs.declared.scope.Scope.{Scope}
use Rattle.scope_options.specs.declared.scope.Scope.TheVariants.{Global, Buffer, Window}
use Rattle.scope_options.specs.declared.value.OptionType.{OptionType}
use Rattle.scope_options.specs.declared.setting.Setting.{Setting}
use Rattle.scope_options.specs.declared.options.OptionError.{OptionError}
use Rattle.scope_options.specs.declared.options.OptionError.TheVariants as error
use Rattle.scope_options.specs.declared.value.OptionValue.{OptionValue}
use Rattle.scope_options.specs.Settings.{value_at, seen_from}
use Rattle.scope_tables.specs.declared.names.HookName.{HookName}
use Rattle.scope_tables.specs.declared.names.HookName.TheVariants.{GlobalSetOption, BufSetOption, WinSetOption}
use Rattle.scope_options.specs.Changes.{declare_in, option_set_in, option_unset_in}
use Rattle.kak_world.specs.declared.ask.EditError.{EditError}
use Rattle.kak_world.specs.declared.ask.EditError.TheVariants.{Command as OfCommand, NoMemory}
use Rattle.kak_world.specs.declared.command_error.CommandError.TheVariants.{NoSuchOption, NoSuchScope, OptionExists, BadValue}
use Rattle.kak_world.specs.Flat.{Flat, shown_of, options_of, with_options}
use Rattle.kak_world.specs.Rows.{RowEnd, does, fails}
use Rattle.kak_world.specs.Events.{event_of, noted}
use Rattle.key_rows.specs.Sequence.{then_row}
use Rattle.key_rows.specs.Reading.{spaced_texts}
use Rattle.command_set.specs.Expanding.{option_strings}
use Rattle.command_set.specs.Buffers.{refuses}

-- the scope that a word names for a client: everywhere, the buffer that it sees, or its window there
abbrev pub scope_named : List ℕ → ℕ → Flat → Option Scope
scope_named word who flat =
    if bytes_eq word (codes "global") then Some Global else
    (if bytes_eq word (codes "buffer") then Some (Buffer (shown_of who flat)) else
    (if bytes_eq word (codes "window") then Some (Window who (shown_of who flat)) else None))

-- whether there is an option of a name
abbrev pub is_declared : List ℕ → Flat → Bool
is_declared name flat = is_some (value_at Global name (options_of flat))

-- by what a client is told why an option of a name wasn't declared, set or unset at the scope of a word
abbrev pub refusal_by : List ℕ → List ℕ → OptionError → EditError
refusal_by name word error.NoOption = OfCommand (NoSuchOption name)
refusal_by name word error.Exists = OfCommand (OptionExists name)
refusal_by name word error.BadType = OfCommand BadValue
refusal_by name word error.BadValue = OfCommand BadValue
refusal_by name word error.NoScope = OfCommand (NoSuchScope word)
refusal_by name word error.NoMemory = NoMemory

-- options are set otherwise, or why they aren't
abbrev pub options_row : List ℕ → List ℕ → Result (List Setting) OptionError → Flat → RowEnd
options_row name word (Ok rows) flat = does (with_options rows flat)
options_row name word (Err e) flat = fails (refusal_by name word e) flat

-- an option is declared
abbrev pub declare_row : OptionType → List ℕ → List (List ℕ) → Flat → RowEnd
declare_row type name values flat = options_row name [] (declare_in type name values (options_of flat)) flat

-- an option that was set at a scope, as hooks hear it: by the scope, and by its name and the value that it has there then
abbrev pub setting_name : Scope → HookName
setting_name Global = GlobalSetOption
setting_name (Buffer n) = BufSetOption
setting_name (Window who n) = WinSetOption

-- a name, an equals sign (61) and a value, whose strings have a space between each two
abbrev pub setting_text : List ℕ → Option OptionValue → List ℕ
setting_text name None = name ++ 61 ∷ []
setting_text name (Some value) = name ++ 61 ∷ spaced_texts (option_strings value)

abbrev pub option_modified : Scope → List ℕ → ℕ → Flat → Flat
option_modified scope name who flat = noted (event_of (setting_name scope) (setting_text name (seen_from scope name (options_of flat))) (shown_of who flat)) flat

-- an option is set at a scope, if the word names one, which hooks hear
abbrev pub set_scoped : Option Scope → Bool → List ℕ → List ℕ → List (List ℕ) → ℕ → Flat → RowEnd
set_scoped None add word name values who flat = refuses (NoSuchScope word) flat
set_scoped (Some scope) add word name values who flat =
    then_row (options_row name word (option_set_in scope name values add (options_of flat)) flat) (λ w. does (option_modified scope name who w))

-- an option is set at the scope of a word: there is to be the option, and then the scope
abbrev pub set_option_row : Bool → List ℕ → List ℕ → List (List ℕ) → ℕ → Flat → RowEnd
set_option_row add word name values who flat =
    if is_declared name flat then set_scoped (scope_named word who flat) add word name values who flat else refuses (NoSuchOption name) flat

-- the same where it is unset
abbrev pub unset_scoped : Option Scope → List ℕ → List ℕ → Flat → RowEnd
unset_scoped None word name flat = refuses (NoSuchScope word) flat
unset_scoped (Some scope) word name flat = options_row name word (option_unset_in scope name (options_of flat)) flat

abbrev pub unset_option_row : List ℕ → List ℕ → ℕ → Flat → RowEnd
unset_option_row word name who flat =
    if is_declared name flat then unset_scoped (scope_named word who flat) word name flat else refuses (NoSuchOption name) flat
