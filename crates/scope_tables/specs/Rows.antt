-- All tables together.
use Rattle.std.specs.Prelude.{ℕ, ◌+◌, Bool, not, List, [], ◌∷◌, ◌++◌, filter}
use Rattle.scope_options.specs.declared.scope.Scope.{Scope}
use Rattle.scope_tables.specs.declared.aliases.Alias.{Alias}
use Rattle.scope_tables.specs.declared.definitions.Definition.{Definition}
use Rattle.scope_tables.specs.declared.maps.KeyMap.{KeyMap}
use Rattle.scope_tables.specs.Hooks.{Hook, NumberedHook, held_as}

-- the tables: each has its rows in the order in which they were added; and how many hooks were ever added
pub record TableRows : Type 0 where
  pub hooks : List NumberedHook
  pub added : ℕ
  pub maps : List KeyMap
  pub aliases : List Alias
  pub definitions : List Definition

-- nothing is held, and no hook was added
abbrev pub no_table_rows : TableRows
no_table_rows = record { hooks = []; added = 0; maps = []; aliases = []; definitions = [] }

-- with a hook at a scope, behind all that are held
abbrev pub with_hook : Scope → Hook → TableRows → TableRows
with_hook scope hook rows =
    record rows { hooks = rows.hooks ++ held_as scope rows.added hook ∷ []; added = rows.added + 1 }

-- without the rows of the scopes that pass a test; definitions have no scope, and as many hooks were added
abbrev pub without_scopes : (Scope → Bool) → TableRows → TableRows
without_scopes goes rows = record rows {
  hooks = filter (λ h. not (goes h.scope)) rows.hooks;
  maps = filter (λ m. not (goes m.scope)) rows.maps;
  aliases = filter (λ a. not (goes a.scope)) rows.aliases;
}
