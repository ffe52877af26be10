-- The table of expansions, as a client's world gives it.
use Rattle.std.specs.Prelude.{ℕ, ◌+◌, ◌-◌, ◌==◌, nat_lt, Bool, true, false, ◌||◌, if◌then◌else◌, List, [], ◌∷◌, ◌++◌, length, codes, decimal, encode_utf8_all, option_map, option_and_then, unwrap_or, slice_index_or, None, Some}
use Rattle.std.specs.declared.option.Option.{Option}
use Rattle.std.specs.Fmt.{signed_decimal}
use Rattle.std.specs.Str.{bytes_eq}
use Rattle.scope_options.specs.declared.value.OptionValue.{OptionValue}
use Rattle.scope_options.specs.declared.value.OptionValue.TheVariants.{Int, Bool as Truth, Str, StrList}
use Rattle.kak_registers.specs.Names.{named}
use Rattle.undo_model.specs.Stories.{is_modified}
use Rattle.list_model.specs.Ranges.{Range, cursor}
use Rattle.selection_set.specs.Held.{main_of}
use Rattle.kak_world.specs.Flat.{Flat, option_of, name_of, number_of, text_of, sels_of, story_of}
use Rattle.kak_world.specs.Running.{arguments_of}
use Rattle.kak_world.specs.Events.{parameter_of}
use Rattle.edit_ops.specs.Reading.{text_of_range}
use Rattle.key_rows.specs.Reading.{strings_read, own_strings}
use Rattle.command_forms.specs.Numbers.{whole_number}
use Rattle.command_forms.specs.declared.places.Columns.{Columns}
use Rattle.command_forms.specs.declared.places.Columns.TheVariants.{Bytes, Characters}
use Rattle.command_forms.specs.declared.places.ArgumentPlace.{ArgumentPlace}
use Rattle.selection_texts.specs.Telling.{place_told, told_text, told_from_main}
use Rattle.command_set.specs.declared.value_names.Kind.{Kind}
use Rattle.command_set.specs.declared.value_names.Kind.TheVariants.{Value, Option as OfOption, Register as OfRegister, Argument}
use Rattle.command_set.specs.declared.value_names.ValueName.{ValueName}
use Rattle.command_set.specs.declared.value_names.ValueName.TheVariants.{BufferName, Client, CursorLine, CursorColumn, CursorCharColumn, Selection, Selections, Description, Descriptions, Count, Modified}

-- which kind a name stands for
abbrev pub kind_named : List ℕ → Option Kind
kind_named name =
    if bytes_eq name (codes "val") then Some Value else
    (if bytes_eq name (codes "opt") then Some OfOption else
    (if bytes_eq name (codes "reg") then Some OfRegister else
    (if bytes_eq name (codes "arg") then Some Argument else None)))

-- which value a name stands for
abbrev pub value_named : List ℕ → Option ValueName
value_named name =
    if bytes_eq name (codes "bufname") then Some BufferName else
    (if bytes_eq name (codes "buffile") then Some BufferName else
    (if bytes_eq name (codes "client") then Some Client else
    (if bytes_eq name (codes "cursor_line") then Some CursorLine else
    (if bytes_eq name (codes "cursor_column") then Some CursorColumn else
    (if bytes_eq name (codes "cursor_char_column") then Some CursorCharColumn else
    (if bytes_eq name (codes "selection") then Some Selection else
    (if bytes_eq name (codes "selections") then Some Selections else
    (if bytes_eq name (codes "selection_desc") then Some Description else
    (if bytes_eq name (codes "selections_desc") then Some Descriptions else
    (if bytes_eq name (codes "selection_count") then Some Count else
    (if bytes_eq name (codes "modified") then Some Modified else None)))))))))))

-- a truth value as a word
abbrev pub truth : Bool → List ℕ
truth true = codes "true"
truth false = codes "false"

-- the main selection of a client
abbrev pub main_selection : ℕ → Flat → Range
main_selection who flat = main_of (sels_of who flat)

-- the place of its cursor
abbrev pub main_place : Columns → ℕ → Flat → ArgumentPlace
main_place columns who flat = place_told columns (text_of who flat) (cursor (main_selection who flat))

-- the strings of a value, of a client in its buffer
abbrev pub value_strings : ValueName → ℕ → Flat → List (List ℕ)
value_strings BufferName who flat = encode_utf8_all (name_of who flat) ∷ []
value_strings Client who flat = (codes "client" ++ decimal (number_of who flat)) ∷ []
value_strings CursorLine who flat = decimal (main_place Bytes who flat).line ∷ []
value_strings CursorColumn who flat = decimal (main_place Bytes who flat).column ∷ []
value_strings CursorCharColumn who flat = decimal (main_place Characters who flat).column ∷ []
value_strings Selection who flat = encode_utf8_all (text_of_range (text_of who flat) (main_selection who flat)) ∷ []
value_strings Selections who flat = own_strings who flat
value_strings Description who flat = told_text (text_of who flat) (main_selection who flat) ∷ []
value_strings Descriptions who flat = told_from_main (text_of who flat) (sels_of who flat)
value_strings Count who flat = decimal (length (sels_of who flat).list) ∷ []
value_strings Modified who flat = truth (is_modified (story_of who flat)) ∷ []

-- the strings of an option's value
abbrev pub option_strings : OptionValue → List (List ℕ)
option_strings (Int n) = signed_decimal n ∷ []
option_strings (Truth b) = truth b ∷ []
option_strings (Str text) = text ∷ []
option_strings (StrList list) = list

-- the strings of the register of a character, if there is one
abbrev pub register_strings : Option ℕ → ℕ → Flat → Option (List (List ℕ))
register_strings None who flat = None
register_strings (Some c) who flat = strings_read c who flat

-- the word of a number, from 1, if there is one
abbrev pub argument_at : ℕ → List (List ℕ) → Option (List (List ℕ))
argument_at n words = if n == 0 then None else (if nat_lt (n - 1) (length words) then Some (slice_index_or words (n - 1) [] ∷ []) else None)

-- the words that a name says: all, or the one of a number
abbrev pub arguments : List ℕ → List (List ℕ) → Option (List (List ℕ))
arguments name words = if bytes_eq name (codes "@") then Some words else option_and_then (λ n. argument_at n words) (whole_number name)

-- the words that the defined command was given that runs; where none does, there are none
abbrev pub given_words : Flat → List (List ℕ)
given_words flat = unwrap_or (arguments_of flat) []

-- the parameter of the hook that runs, as a string; none where no hook runs
abbrev pub parameter_strings : Flat → Option (List (List ℕ))
parameter_strings flat = option_map (λ p. p ∷ []) (parameter_of flat)

-- the strings of the value of a name: one of a client, or that parameter
abbrev pub value_found : List ℕ → ℕ → Flat → Option (List (List ℕ))
value_found name who flat =
    if bytes_eq name (codes "hook_param") then parameter_strings flat else option_map (λ v. value_strings v who flat) (value_named name)

-- the strings of an expansion of a kind, by its name
abbrev pub strings_named : Option Kind → ℕ → Flat → List ℕ → Option (List (List ℕ))
strings_named None who flat name = None
strings_named (Some Value) who flat name = value_found name who flat
strings_named (Some OfOption) who flat name = option_map option_strings (option_of name who flat)
strings_named (Some OfRegister) who flat name = register_strings (named name) who flat
strings_named (Some Argument) who flat name = arguments name (given_words flat)

-- the table of a client: the strings of an expansion, by its kind and its name
unfoldable pub table_of : ℕ → Flat → List ℕ → List ℕ → Option (List (List ℕ))
table_of who flat kind name = strings_named (kind_named kind) who flat name
