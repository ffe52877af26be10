-- The world with what is kept by scope changed.
use Rattle.std.specs.Prelude.{ℕ, List}
use Rattle.scope_options.specs.declared.scope.Scope.{Scope}
use Rattle.highlight_paint.specs.Painters.{Paints}
use Rattle.highlight_paint.specs.Highlighters.{with_highlighter, without_highlighter}
use Rattle.scope_tables.specs.declared.aliases.Alias.{Alias}
use Rattle.scope_tables.specs.declared.definitions.Definition.{Definition}
use Rattle.scope_tables.specs.declared.maps.KeyMap.{KeyMap}
use Rattle.scope_tables.specs.Hooks.{NumberedHook}
use Rattle.kak_world.specs.Flat.{Flat, with_scoped, with_highlighters, highlighters_of}

-- the world with a highlighter of a path at a scope, and without it
abbrev pub highlighter_added : Scope → List ℕ → Paints → Flat → Flat
highlighter_added scope path paints flat = with_highlighters (with_highlighter scope path paints (highlighters_of flat)) flat

abbrev pub highlighter_removed : Scope → List ℕ → Flat → Flat
highlighter_removed scope path flat = with_highlighters (without_highlighter scope path (highlighters_of flat)) flat

-- the world with one of the tables changed
abbrev pub with_hooks : (List NumberedHook → List NumberedHook) → Flat → Flat
with_hooks f flat = with_scoped (λ s. record s { tables = record s.tables { hooks = f s.tables.hooks } }) flat

abbrev pub with_maps : (List KeyMap → List KeyMap) → Flat → Flat
with_maps f flat = with_scoped (λ s. record s { tables = record s.tables { maps = f s.tables.maps } }) flat

abbrev pub with_aliases : (List Alias → List Alias) → Flat → Flat
with_aliases f flat = with_scoped (λ s. record s { tables = record s.tables { aliases = f s.tables.aliases } }) flat

abbrev pub with_definitions : (List Definition → List Definition) → Flat → Flat
with_definitions f flat = with_scoped (λ s. record s { tables = record s.tables { definitions = f s.tables.definitions } }) flat
