-- What counts for what runs inside a step: the words of the innermost defined command, and the keys that a key stands for.
use Rattle.std.specs.Prelude.{ℕ, List}
use Rattle.std.specs.declared.option.Option.{Option}
use Rattle.key_names.specs.declared.key.Key.{Key}
use Rattle.scope_tables.specs.declared.maps.Mode.{Mode as MapMode}
use Rattle.scope_tables.specs.declared.maps.Mode.TheVariants as map
use Rattle.scope_tables.specs.Maps.{keys_for}
use Rattle.kak_world.specs.declared.own.Mode.{Mode}
use Rattle.kak_world.specs.declared.own.Mode.TheVariants.{Normal, Insert, Prompt}
use Rattle.kak_world.specs.Flat.{Flat, rest_of, with_rest, shown_of, mode_of, tables_of}

-- the words that the innermost defined command was given; none where no such command runs
abbrev pub arguments_of : Flat → Option (List (List ℕ))
arguments_of flat = (rest_of flat).step.arguments

-- the world with other such words
abbrev pub with_arguments : Option (List (List ℕ)) → Flat → Flat
with_arguments arguments flat = with_rest (λ r. record r { step = record r.step { arguments = arguments } }) flat

-- a mode as the maps of keys name it
abbrev pub map_mode : Mode → MapMode
map_mode Normal = map.Normal
map_mode Insert = map.Insert
map_mode Prompt = map.Prompt

-- the keys that a key stands for, if it does, in the mode of a client and where it looks
unfoldable pub keys_mapped : ℕ → Key → Flat → Option (List Key)
keys_mapped who key flat = keys_for (shown_of who flat) who (map_mode (mode_of who flat)) key (tables_of flat).maps
