-- What commands do to key maps, aliases, defined commands and hooks.
use Rattle.std.specs.Prelude.{ℕ, List, [], ◌∷◌, codes, None, Some, Ok, Err}
use Rattle.std.specs.declared.option.Option.{Option}
use Rattle.std.specs.declared.result.Result.{Result}
use Rattle.std.specs.Str.{chars}
use Rattle.key_names.specs.declared.key.Key.{Key}
use Rattle.key_names.specs.Reading.{read_text}
use Rattle.scope_options.specs.declared.scope.Scope.{Scope}
use Rattle.scope_tables.specs.declared.definitions.ParameterCount.{ParameterCount}
use Rattle.scope_tables.specs.declared.maps.Mode.{Mode}
use Rattle.scope_tables.specs.declared.maps.Mode.TheVariants.{Normal, Insert, Prompt}
use Rattle.scope_tables.specs.declared.names.HookName.{HookName}
use Rattle.scope_tables.specs.Names.{hook_named}
use Rattle.scope_tables.specs.Maps.{with_map, without_map}
use Rattle.scope_tables.specs.Aliases.{with_alias, without_alias}
use Rattle.scope_tables.specs.Definitions.{with_definition}
use Rattle.scope_tables.specs.Hooks.{without_group}
use Rattle.command_forms.specs.declared.parameters.Allowed.{Allowed}
use Rattle.command_forms.specs.declared.table_orders.HookWords.{HookWords}
use Rattle.command_forms.specs.declared.table_orders.KeyMapping.{KeyMapping}
use Rattle.command_forms.specs.declared.table_orders.KeyName.{KeyName}
use Rattle.command_forms.specs.declared.table_orders.TableOrder.{TableOrder}
use Rattle.command_forms.specs.declared.table_orders.TableOrder.TheVariants as order
use Rattle.command_forms.specs.Lookup.{row, looked_up}
use Rattle.kak_world.specs.declared.ask.Ask.TheVariants.{Make}
use Rattle.kak_world.specs.declared.ask.EditError.{EditError}
use Rattle.kak_world.specs.declared.ask.EditError.TheVariants.{Command as OfCommand}
use Rattle.kak_world.specs.declared.command_error.CommandError.TheVariants.{NoSuchScope, NoSuchMode, NoSuchHook, BadKey}
use Rattle.kak_world.specs.declared.purpose.Wanted.TheVariants.{Hooks as ToHook}
use Rattle.kak_world.specs.Flat.{Flat}
use Rattle.kak_world.specs.Scoping.{with_hooks, with_maps, with_aliases, with_definitions}
use Rattle.kak_world.specs.Rows.{RowEnd, does}
use Rattle.command_set.specs.Buffers.{asks, refuses}
use Rattle.command_set.specs.Options.{scope_named}
use Rattle.command_set.specs.Painting.{told_row}

-- a row at the scope of a word, if there is that scope
abbrev pub at_scope : List ℕ → (Scope → RowEnd) → Flat → Option Scope → RowEnd
at_scope word row flat (Some scope) = row scope
at_scope word row flat None = refuses (NoSuchScope word) flat

abbrev pub scoped_row : List ℕ → (Scope → RowEnd) → ℕ → Flat → RowEnd
scoped_row word row who flat = at_scope word row flat (scope_named word who flat)

-- the mode that a word names
abbrev pub mode_named : List ℕ → Option Mode
mode_named word = looked_up word (row (codes "normal") Normal ∷ row (codes "insert") Insert ∷ row (codes "prompt") Prompt ∷ [])

abbrev pub mode_told : List ℕ → Option Mode → Result Mode EditError
mode_told word (Some mode) = Ok mode
mode_told word None = Err (OfCommand (NoSuchMode word))

-- the keys of a key text, or at which character the first stands that has no reading
abbrev pub keys_told : Result (List Key) ℕ → Result (List Key) EditError
keys_told (Ok keys) = Ok keys
keys_told (Err at) = Err (OfCommand (BadKey at))

-- the only key of a key text; none and several are told at 0
abbrev pub only_key : Result (List Key) EditError → Result Key EditError
only_key (Ok (key ∷ [])) = Ok key
only_key (Ok _) = Err (OfCommand (BadKey 0))
only_key (Err e) = Err e

abbrev pub key_told : List ℕ → Result Key EditError
key_told word = only_key (keys_told (read_text (chars word)))

-- a key is mapped at a scope: the mode is judged first, then the key, then the keys
abbrev pub map_at : KeyMapping → Flat → Scope → RowEnd
map_at m flat scope =
    told_row (λ mode. told_row (λ key. told_row (λ keys. does (with_maps (with_map scope mode key keys) flat)) flat (keys_told (read_text (chars m.keys)))) flat (key_told m.key))
    flat (mode_told m.mode (mode_named m.mode))

abbrev pub unmap_at : KeyName → Flat → Scope → RowEnd
unmap_at k flat scope =
    told_row (λ mode. told_row (λ key. does (with_maps (without_map scope mode key) flat)) flat (key_told k.key)) flat (mode_told k.mode (mode_named k.mode))

-- how many parameters a command may be given, as the table has it
abbrev pub count_of : Allowed → ParameterCount
count_of a = record { least = a.least; most = a.most }

-- a hook at a scope: its name is judged, and then its pattern is asked for
abbrev pub hook_named_at : HookWords → Flat → Scope → Option HookName → RowEnd
hook_named_at h flat scope None = refuses (NoSuchHook h.name) flat
hook_named_at h flat scope (Some name) =
    asks (Make (record { pattern = chars h.pattern; then = ToHook (record { scope = scope; name = name; group = h.group; once = h.once; commands = h.commands }) })) flat

abbrev pub hook_at : HookWords → Flat → Scope → RowEnd
hook_at h flat scope = hook_named_at h flat scope (hook_named h.name)

-- what is ordered of the tables
abbrev pub table_row : TableOrder → ℕ → Flat → RowEnd
table_row (order.Map m) who flat = scoped_row m.scope (map_at m flat) who flat
table_row (order.Unmap k) who flat = scoped_row k.scope (unmap_at k flat) who flat
table_row (order.Alias a) who flat = scoped_row a.scope (λ scope. does (with_aliases (with_alias scope a.word a.command) flat)) who flat
table_row (order.Unalias a) who flat = scoped_row a.scope (λ scope. does (with_aliases (without_alias scope a.word) flat)) who flat
table_row (order.Define d) who flat = does (with_definitions (with_definition d.name (count_of d.allowed) d.commands) flat)
table_row (order.Hook h) who flat = scoped_row h.scope (hook_at h flat) who flat
table_row (order.RemoveHooks g) who flat = scoped_row g.scope (λ scope. does (with_hooks (without_group scope g.group) flat)) who flat
