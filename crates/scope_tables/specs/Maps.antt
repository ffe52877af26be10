-- Keys that stand for others.
use Rattle.std.specs.Prelude.{ℕ, ◌&&◌, not, Bool, true, false, List, filter, find, Option, option_map}
use Rattle.tables.specs.Tables.{put_where}
use Rattle.key_names.specs.declared.key.Key.{Key}
use Rattle.scope_options.specs.declared.scope.Scope.{Scope}
use Rattle.scope_options.specs.Scopes.{is_same_scope}
use Rattle.scope_tables.specs.declared.maps.Mode.{Mode}
use Rattle.scope_tables.specs.declared.maps.Mode.TheVariants.{Normal, Insert, Prompt}
use Rattle.scope_tables.specs.declared.maps.KeyMap.{KeyMap}
use Rattle.scope_tables.specs.Inner.{innermost_of}
use Rattle.scope_tables.specs.Keys.{is_same_key}

-- whether two modes are one
abbrev pub is_same_mode : Mode → Mode → Bool
is_same_mode Normal Normal = true
is_same_mode Insert Insert = true
is_same_mode Prompt Prompt = true
is_same_mode _ _ = false

-- whether a map is that of a key in a mode at a scope
abbrev pub is_map : Scope → Mode → Key → KeyMap → Bool
is_map scope mode key m = is_same_scope m.scope scope && is_same_mode m.mode mode && is_same_key m.key key

-- the map of a key
abbrev pub key_map : Scope → Mode → Key → List Key → KeyMap
key_map scope mode key keys = record { scope = scope; mode = mode; key = key; keys = keys }

-- the keys that a key stands for at a scope itself, if it is mapped there
abbrev pub keys_at : Mode → Key → List KeyMap → Scope → Option (List Key)
keys_at mode key maps scope = option_map (λ m. m.keys) (find (is_map scope mode key) maps)

-- the keys that a key stands for, for a client in a buffer, if it is mapped
abbrev pub keys_for : ℕ → ℕ → Mode → Key → List KeyMap → Option (List Key)
keys_for buffer client mode key maps = innermost_of buffer client (keys_at mode key maps)

-- with a key mapped at a scope
abbrev pub with_map : Scope → Mode → Key → List Key → List KeyMap → List KeyMap
with_map scope mode key keys maps = put_where (is_map scope mode key) (key_map scope mode key keys) maps

-- without the map of a key at a scope
abbrev pub without_map : Scope → Mode → Key → List KeyMap → List KeyMap
without_map scope mode key maps = filter (λ m. not (is_map scope mode key m)) maps
