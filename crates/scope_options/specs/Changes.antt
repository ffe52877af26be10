-- How options are declared, set and unset, or why not.
use Rattle.std.specs.Prelude.{◌≡◌, ℕ, Bool, List, [], ◌∷◌, ◌++◌, if◌then◌else◌, Option, Some, None, option_and_then, Result, Ok, Err}
use Rattle.tables.specs.Tables.{put_where}
use Rattle.scope_options.specs.declared.scope.Scope.{Scope}
use Rattle.scope_options.specs.declared.scope.Scope.TheVariants.{Global}
use Rattle.scope_options.specs.declared.value.OptionType.{OptionType}
use Rattle.scope_options.specs.declared.value.OptionValue.{OptionValue}
use Rattle.scope_options.specs.declared.setting.Setting.{Setting}
use Rattle.scope_options.specs.declared.options.OptionError.{OptionError}
use Rattle.scope_options.specs.declared.options.OptionError.TheVariants as error
use Rattle.scope_options.specs.Values.{kind_of, is_same_type, read_value, added, is_within}
use Rattle.scope_options.specs.Settings.{is_at, value_at, seen_over, setting, declared_as, without}

-- declaring an option that exists with the same type
abbrev pub declare_again : Option OptionValue → List Setting → Result (List Setting) OptionError
declare_again None rows = Err error.BadType
declare_again (Some value) rows = Ok rows

-- declaring an option that exists with a type
abbrev pub declare_typed : OptionType → OptionType → Option OptionValue → List Setting → Result (List Setting) OptionError
declare_typed old kind read rows = if is_same_type old kind then declare_again read rows else Err error.Exists

-- declaring an option by what is declared, if it is, and by the value that is read, if it is one
abbrev pub declare_by : OptionType → List ℕ → Option OptionValue → Option OptionValue → List Setting → Result (List Setting) OptionError
declare_by kind name (Some old) read rows = declare_typed (kind_of old) kind read rows
declare_by kind name None None rows = Err error.BadType
declare_by kind name None (Some value) rows = Ok (rows ++ declared_as name value ∷ [])

-- declaring an option: one of another type may not exist, and the words must be a value of the type; one that exists
-- keeps its value
abbrev pub declare_in : OptionType → List ℕ → List (List ℕ) → List Setting → Result (List Setting) OptionError
declare_in kind name words rows = declare_by kind name (value_at Global name rows) (read_value kind words) rows

-- a value, if the option takes it
abbrev pub taken : List ℕ → OptionValue → Option OptionValue
taken name value = if is_within name value then Some value else None

-- the value that words are beside the value that is seen: itself, or added to that
abbrev pub value_beside : Bool → OptionValue → OptionValue → Option OptionValue
value_beside add seen value = if add then added seen value else Some value

-- the value that an option is set to by words, where its global value is given
abbrev pub new_value : OptionValue → Scope → List ℕ → List (List ℕ) → Bool → List Setting → Option OptionValue
new_value global scope name words add rows =
    option_and_then (taken name) (option_and_then (value_beside add (seen_over global scope name rows)) (read_value (kind_of global) words))

-- setting an option to a value, if there is one
abbrev pub put_value : Scope → List ℕ → List Setting → Option OptionValue → Result (List Setting) OptionError
put_value scope name rows None = Err error.BadValue
put_value scope name rows (Some value) =
    Ok (put_where (is_at scope name) (setting scope name value) rows)

-- setting an option by its global value, if it is declared
abbrev pub set_by : Option OptionValue → Scope → List ℕ → List (List ℕ) → Bool → List Setting → Result (List Setting) OptionError
set_by None scope name words add rows = Err error.NoOption
set_by (Some global) scope name words add rows = put_value scope name rows (new_value global scope name words add rows)

-- setting an option at a scope: it must be declared, and the words must be a value that it takes
abbrev pub option_set_in : Scope → List ℕ → List (List ℕ) → Bool → List Setting → Result (List Setting) OptionError
option_set_in scope name words add rows = set_by (value_at Global name rows) scope name words add rows

-- unsetting an option by its global value, if it is declared
abbrev pub unset_by : Option OptionValue → Scope → List ℕ → List Setting → Result (List Setting) OptionError
unset_by None scope name rows = Err error.NoOption
unset_by (Some global) Global name rows = Err error.NoScope
unset_by (Some global) scope name rows = Ok (without scope name rows)

-- unsetting an option at a scope: it must be declared, and the scope may not be the global one
abbrev pub option_unset_in : Scope → List ℕ → List Setting → Result (List Setting) OptionError
option_unset_in scope name rows = unset_by (value_at Global name rows) scope name rows

-- an error is the refusal that is due; memory may run out at any time
abbrev pub IsOptionErrorDue : OptionError → Result (List Setting) OptionError → Type 0
IsOptionErrorDue error.NoMemory due = Unit {0}
IsOptionErrorDue error.NoOption due = due ≡ Err error.NoOption
IsOptionErrorDue error.Exists due = due ≡ Err error.Exists
IsOptionErrorDue error.BadType due = due ≡ Err error.BadType
IsOptionErrorDue error.BadValue due = due ≡ Err error.BadValue
IsOptionErrorDue error.NoScope due = due ≡ Err error.NoScope
