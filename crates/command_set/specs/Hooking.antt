-- Hooks whose patterns were made.
use Rattle.std.specs.Prelude.{ℕ, if◌then◌else◌, List}
use Rattle.scope_tables.specs.Hooks.{Hook, is_scope_full}
use Rattle.scope_tables.specs.Rows.{with_hook}
use Rattle.kak_world.specs.declared.command_error.CommandError.TheVariants.{TooManyHooks}
use Rattle.kak_world.specs.declared.purpose.NewHook.{NewHook}
use Rattle.kak_world.specs.Flat.{Flat, tables_of, with_tables}
use Rattle.kak_world.specs.Rows.{RowEnd, does}
use Rattle.command_set.specs.Buffers.{refuses}

-- the hook of a pattern that was made of a text
abbrev pub hook_made : NewHook → List ℕ → Hook
hook_made new source = record { name = new.name; pattern = source; group = new.group; once = new.once; commands = new.commands }

-- a hook is added, unless its scope is full
abbrev pub hooked_row : NewHook → List ℕ → Flat → RowEnd
hooked_row new source flat =
    if is_scope_full new.scope (tables_of flat).hooks (tables_of flat).added then refuses TooManyHooks flat
    else does (with_tables (with_hook new.scope (hook_made new source) (tables_of flat)) flat)
